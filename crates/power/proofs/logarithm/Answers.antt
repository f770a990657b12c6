-- `power::logarithm` meets its contract. Assumes nothing.
use native.Mathlib.Omega.{arith}
use Rattle.power.specs.Steps.{logarithm_of}
use Rattle.power.proofs.Logs.{placed, moved_up}
use Rattle.power.proofs.logarithm.Goals as goal

pub overflow_sub-z : goal.overflow_sub-z
overflow_sub-z c = omega (arith, (placed c.args.v c.requires.0 c.requires.1).few)

pub overflow_sub-z-2 : goal.overflow_sub-z-2
overflow_sub-z-2 c = omega (arith, (placed c.args.v c.requires.0 c.requires.1).some)

pub complement-requires : goal.complement-requires
complement-requires c =
    let p = placed c.args.v c.requires.0 c.requires.1 in
    rw (moved_up _ _ p) (p.low, p.high)

pub returns : goal.returns
unfolding logarithm_of
returns c =
    let at = c in
    rw (c.saturating_sub.ensures, c.complement.ensures, moved_up _ _ (placed at.args.v at.requires.0 at.requires.1))

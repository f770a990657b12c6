-- `speed::root_of_k` meets its contract. Assumes nothing.
use Prim.Native.Nat.{◌<◌}
use native.Mathlib.Omega.{arith}
use Rattle.number.proofs.Divisions.{div_ceil_named}
use Rattle.power.specs.Power.{Power}
use Rattle.power.proofs.Laws.{power_law}
use Rattle.speed.specs.Speeds.{k_root_of}
use Rattle.speed.proofs.Designs.{k_raisable}
use Rattle.speed.proofs.root_of_k.Goals as goal
use Rattle.speed.proofs.root_of_k.Goals.{After-power-y}

law : (c : After-power-y) → Power 100 c.args.n 1 3 c.power-y.result
law c = rw c.power-y.ensures (power_law (k_raisable _ c.requires))

pub nonzero_div-lo : goal.nonzero_div-lo
nonzero_div-lo c =
    omega (arith, law (goal.at.nonzero_div-lo c).After-power-y)

pub div_ceil-hi-requires : goal.div_ceil-hi-requires
div_ceil-hi-requires c = omega (arith, law (goal.at.div_ceil-hi-requires c).After-power-y)

pub returns : goal.returns
unfolding k_root_of
returns c =
    let some : 0 < c.power-y.result.lo = omega (arith, law (goal.at.returns c).After-power-y) in
    rw (c.div_ceil-hi.ensures, div_ceil_named _ _ some, c.power-y.ensures)

-- `correction::inverse_froude` meets its contract. Assumes nothing.
use native.Mathlib.Omega.{arith}
use Rattle.correction.specs.Correction.{inverse_froude}
use Rattle.correction.proofs.Froude.{root_law, root_high}
use Rattle.correction.proofs.inverse_froude.Goals as goal

-- Of either end of the root and of the speed.
pub inverse_froude_down-requires : goal.inverse_froude_down-requires
inverse_froude_down-requires c =
    let v = c.requires.0 in
    let hull = c.requires.1 in
    rw c.power-w.ensures (omega (arith, (root_law hull).order, root_high hull), omega (arith, v))

pub inverse_froude_up-requires : goal.inverse_froude_up-requires
inverse_froude_up-requires c =
    let root = c in
    let v = root.requires.0 in
    let hull = root.requires.1 in
    rw root.power-w.ensures (omega (arith, (root_law hull).order, root_high hull), omega (arith, v))

pub returns : goal.returns
unfolding inverse_froude
returns c =
    let low = c in
    rw (low.within_limits.ensures, c.within_limits-2.ensures, low.inverse_froude_down.ensures, c.inverse_froude_up.ensures, low.power-w.ensures)

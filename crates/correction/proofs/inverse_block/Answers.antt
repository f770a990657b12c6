-- `correction::inverse_block` meets its contract. Assumes nothing.
use native.Mathlib.Omega.{arith}
use Rattle.number.proofs.Divisions.{floor_named}
use Rattle.correction.specs.Correction.{inverse_block}
use Rattle.correction.proofs.inverse_block.Goals as goal

pub returns : goal.returns
unfolding inverse_block
returns c =
    let at = c in
    rw (c.min.ensures, floor_named (omega (arith, at.requires.volume.least)) at.floor_scaled.ensures)

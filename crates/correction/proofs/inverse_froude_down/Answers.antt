-- `correction::inverse_froude_down` meets its contract. Assumes nothing.
use native.Mathlib.Omega.{arith}
use Rattle.number.proofs.Divisions.{floor_named}
use Rattle.correction.specs.Correction.{inverse_froude_down}
use Rattle.correction.proofs.inverse_froude_down.Goals as goal

pub returns : goal.returns
unfolding inverse_froude_down
returns c = floor_named (omega (arith, c.requires.1.least)) c.floor_scaled.ensures

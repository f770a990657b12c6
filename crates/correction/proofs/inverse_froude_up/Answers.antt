-- `correction::inverse_froude_up` meets its contract. Assumes nothing.
use native.Mathlib.Omega.{arith}
use Rattle.number.proofs.Divisions.{ceil_named}
use Rattle.correction.specs.Correction.{inverse_froude_up}
use Rattle.correction.proofs.inverse_froude_up.Goals as goal

pub returns : goal.returns
unfolding inverse_froude_up
returns c = ceil_named (omega (arith, c.requires.1.least)) c.ceil_scaled.ensures

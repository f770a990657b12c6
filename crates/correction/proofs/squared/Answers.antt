-- `correction::squared` meets its contract. Assumes nothing.
use lib.Dec.{lit<}
use Prim.Native.Nat.{◌^◌}
use Rattle.number.proofs.Divisions.{div_ceil_named}
use Rattle.correction.specs.Correction.{squared_of}
use Rattle.correction.proofs.squared.Goals as goal

pub returns : goal.returns
unfolding squared_of
returns c = rw (c.div_ceil-2.ensures, div_ceil_named _ 37500 (lit< tt), c.div_ceil.ensures, div_ceil_named _ (2 ^ 22) (lit< tt))

-- `number::product::scaled_up` meets its contract. Assumes nothing.
use Prim.Native.Nat.{◌^◌}
use native.Mathlib.Omega.{arith}
use lib.Dec.{lit<}
use Rattle.number.specs.Product.{scaled_up}
use Rattle.number.proofs.Divisions.{ceil_named, QuotientBelow}
use Rattle.number.proofs.product.scaled_up.Goals as goal

pub rounded_up-requires : goal.rounded_up-requires
rounded_up-requires c = QuotientBelow (2 ^ 63) c.divide_product.ensures (omega (arith, c.requires))

pub returns : goal.returns
unfolding scaled_up
returns c = ceil_named (lit< tt) (c.rounded_up.ensures _ _ c.divide_product.ensures)

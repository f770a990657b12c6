-- `number::product::scaled_down` meets its contract. Assumes nothing.
use lib.Dec.{lit<}
use Rattle.number.specs.Product.{scaled_down}
use Rattle.number.proofs.Divisions.{floor_divided, floor_named}
use Rattle.number.proofs.product.scaled_down.Goals as goal

pub returns : goal.returns
unfolding scaled_down
returns c = floor_named (lit< tt) (floor_divided c.divide_product.ensures)

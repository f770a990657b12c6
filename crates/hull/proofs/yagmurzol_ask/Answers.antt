-- `hull::yagmurzol_ask` meets its contract.
-- Assumes nothing.
use Rattle.hull.proofs.Yard.{small}
use Rattle.hull.proofs.yagmurzol_ask.Goals as goal

pub told-requires : goal.told-requires
told-requires c = rw c.bounds_of_block.ensures (small _)

-- `hull::yagmurzol_index` meets its contract.
-- Assumes nothing.
use Rattle.hull.proofs.Settled.{small_index}
use Rattle.hull.proofs.yagmurzol_index.Goals as goal

pub told-requires : goal.told-requires
told-requires c = rw c.index_from_block.ensures (small_index _ _)

-- `ship::power::power_sums` meets its contract.
-- Assumes nothing.
use Rattle.ship.proofs.Sums.{used_each}
use Rattle.ship.proofs.power.power_sums.Goals as goal

pub sums_over-requires : goal.sums_over-requires
sums_over-requires c = used_each c.args.used c.args.engines c.requires.0 c.requires.1

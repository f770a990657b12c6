-- `rules::check_with` meets its contract.
-- Assumes nothing.
use native.Mathlib.Omega.{arith}
use Rattle.ship.proofs.Order.{well, in_stages}
use Rattle.rules.proofs.check_with.Goals as goal

pub trial_check-requires : goal.trial_check-requires
trial_check-requires c = well _ (grind (arith, in_stages))

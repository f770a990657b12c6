-- `program::step` meets its contract: what comes after the batch may follow it.
-- Assumes nothing.
use Rattle.program.proofs.Joined.{steps_coming}
use Rattle.program.proofs.step.Goals as goal

pub returns : goal.returns
returns g c = steps_coming _ c.fill-got.result _ _ c.coming.ensures

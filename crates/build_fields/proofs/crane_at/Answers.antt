-- `build_fields::crane_at` meets its contract.
-- Assumes nothing.
use Rattle.fields.specs.Runs.{numbers_at}
use Rattle.build_fields.proofs.crane_at.Goals as goal

pub returns : goal.returns
unfolding numbers_at
returns c = λ i. record { swl = c.number_at.ensures i; reach = c.number_at-2.ensures i }

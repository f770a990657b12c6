-- `build_fields::write_front` meets its contract.
-- Assumes nothing.
use Rattle.build_fields.specs.Fields.{front}
use Rattle.build_fields.proofs.write_front.Goals as goal

pub returns : goal.returns
unfolding front
returns c = c.put_run.ensures

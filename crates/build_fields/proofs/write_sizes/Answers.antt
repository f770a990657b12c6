-- `build_fields::write_sizes` meets its contract.
-- Assumes nothing.
use Rattle.build_fields.specs.Fields.{sizes}
use Rattle.build_fields.proofs.write_sizes.Goals as goal

pub returns : goal.returns
unfolding sizes
returns c = c.put_run.ensures

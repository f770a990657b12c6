-- `layout::write_entry` meets its contract.
-- Assumes nothing.
use Rattle.layout.specs.Layout.{entry}
use Rattle.layout.proofs.write_entry.Goals as goal

pub returns : goal.returns
unfolding entry
returns c = c.put_run.ensures

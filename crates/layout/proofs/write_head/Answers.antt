-- `layout::write_head` meets its contract.
-- Assumes nothing.
use Rattle.layout.specs.Layout.{head}
use Rattle.layout.proofs.write_head.Goals as goal

pub returns : goal.returns
unfolding head
returns c = c.put_run.ensures

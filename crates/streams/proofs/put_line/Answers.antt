-- `streams::put_line` meets its contract.
-- Assumes nothing.
use Rattle.decimal.proofs.Putting.{put_put}
use Rattle.streams.proofs.put_line.Goals as goal

pub returns : goal.returns
returns c = put_put c.put_text-at.ensures c.put_text.ensures

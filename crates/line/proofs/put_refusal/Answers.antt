-- `line::put_refusal` meets its contract.
-- Assumes nothing.
use Rattle.decimal.proofs.Putting.{put_put}
use Rattle.line.proofs.put_refusal.Goals as goal

pub returns-clause-put : goal.returns-clause-put
returns-clause-put c =
    put_put c.put_number-a.ensures.put (put_put c.put_text-b.ensures c.put_number.ensures.put)

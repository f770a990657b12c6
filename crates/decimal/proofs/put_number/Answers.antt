-- `decimal::put_number` meets its contract.
-- Assumes nothing.
use Rattle.std.proofs.Common.{arith}
use Rattle.decimal.proofs.Putting.{text_byte_put}
use Rattle.decimal.proofs.put_number.Goals as goal

pub returns-clause-put : goal.returns-clause-put
returns-clause-put c =
    let a = c.args in
    let digits = c.put_digits in
    text_byte_put a.out.now _ digits.new.part a.at _ a.after digits.ensures c.width.ensures.value (omega arith)

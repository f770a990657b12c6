-- `fields::put` meets its contract.
-- Assumes nothing.
use Rattle.std.proofs.Common.{arith}
use Rattle.fields.proofs.Numbers.{put_again, put_end}
use Rattle.fields.proofs.put.Goals as goal

pub loop-byte-preserved : goal.loop-byte-preserved
loop-byte-preserved c =
    let l = c.loop-byte in
    put_again l.bytes _ _ l.rest l.byte-index l.invariant (omega arith) (omega arith)

pub returns : goal.returns
returns c =
    let l = c.loop-byte in
    put_end l.bytes _ _ l.rest l.byte-index l.invariant (omega arith) (omega arith)

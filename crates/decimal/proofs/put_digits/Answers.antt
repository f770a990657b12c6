-- `decimal::put_digits` meets its contract. From `i` on the part has the digits; those of `rest` are left.
-- Assumes nothing.
use Rattle.std.proofs.Common.{◌≡◌, refl, arith}
use Rattle.decimal.proofs.Spelling.{stored_start, stored_again, stored_end}
use Rattle.decimal.proofs.put_digits.Goals as goal

pub loop-i-init : goal.loop-i-init
loop-i-init c = stored_start c.args.n _ c.args.part.now c.requires refl

pub loop-i-preserved : goal.loop-i-preserved
loop-i-preserved c = stored_again c.loop-i.i c.loop-i.rest c.loop-i.part _ (omega arith) (omega arith) c.loop-i.invariant

pub returns : goal.returns
returns c =
    let z : c.loop-i.i ≡ 0 = omega arith in
    stored_end c.loop-i.rest c.loop-i.part _ (rw z at c.loop-i.invariant)

-- `decimal::put_digits` meets its contract. From `i` on the part has the digits; those of `rest` are left.
-- Assumes nothing.
use Rattle.std.proofs.Common.{◌≡◌, ◌++◌, drop}
use Rattle.decimal.specs.Digits.{decimal}
use Rattle.decimal.proofs.Spelling.{last_digits}
use Rattle.decimal.proofs.put_digits.Given as goal

abbrev pub invariant-loop-i : goal.invariant-loop-i
invariant-loop-i l = last_digits l.i l.rest ++ drop l.i l.part ≡ decimal l.n

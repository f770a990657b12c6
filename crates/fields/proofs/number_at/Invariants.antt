-- `fields::number_at` meets its contract: what was read so far is the number in the last bytes.
-- Assumes nothing.
use Rattle.std.proofs.Common.{◌≡◌, ◌+◌, ◌-◌, length}
use Rattle.fields.specs.Numbers.{number_at}
use Rattle.fields.proofs.number_at.Given as goal

abbrev pub invariant-loop-byte : goal.invariant-loop-byte
invariant-loop-byte l =
    let k = length l.yielded in
    l.n ≡ number_at l.bytes (l.at + (l.width - k)) k

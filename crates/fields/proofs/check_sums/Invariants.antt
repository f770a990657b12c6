-- `fields::check_sums` meets its contract: what is summed and what is ahead make the sums of all bytes.
-- Assumes nothing.
use Rattle.std.proofs.Common.{◌≡◌, ◌+◌, ◌%◌, ◌<◌, length, drop}
use Rattle.fields.proofs.Checks.{sum, weighed}
use Rattle.fields.proofs.check_sums.Given as goal

abbrev pub invariant-loop-i : goal.invariant-loop-i
invariant-loop-i l =
    ((l.a < 65536) × (l.b < 65536))
    × ((l.a + sum (drop l.i l.bytes)) % 65536 ≡ (1 + sum l.bytes) % 65536)
    × ((l.b + weighed (drop l.i l.bytes)) % 65536 ≡ (length l.bytes + weighed l.bytes) % 65536)

-- `fields::check_sums` meets its contract: what is summed and what is ahead make the sums of all bytes.
-- Assumes nothing.
use Rattle.std.proofs.Common.{◌≡◌, ◌+◌, ◌-◌, ◌%◌, length, get_or, drop, arith, drop_of_length-le}
use Rattle.fields.proofs.Checks.{sum, weighed, ahead, weighed_step, sums_end}
use Rattle.fields.proofs.check_sums.Goals as goal

pub loop-i-preserved : goal.loop-i-preserved
loop-i-preserved c =
    let l = c in
    let xs = l.args.bytes.now in
    let i = l.loop-i.i in
    let next = ahead xs i (omega arith) in
    let rest = weighed (drop (i + 1) xs) in (
      (omega arith, omega arith),
      rw c.from-a.ensures (omega (arith, next.0, l.loop-i.invariant.1)),
      rw (c.from.ensures, weighed_step l.loop-i.b (length xs - i) (get_or xs i 0) rest, ← next.1) l.loop-i.invariant.2,
    )

pub returns : goal.returns
returns c =
    let l = c in
    let xs = l.args.bytes.now in
    let none = drop_of_length-le xs {i = l.loop-i.i} (omega arith) in
    let first : (l.loop-i.a + 0) % 65536 ≡ (1 + sum xs) % 65536 = rw none at l.loop-i.invariant.1 in
    let second : (l.loop-i.b + 0) % 65536 ≡ (length xs + weighed xs) % 65536 = rw none at l.loop-i.invariant.2 in
    sums_end {a = l.loop-i.a} {b = l.loop-i.b} xs (omega (arith, first)) (omega (arith, second))

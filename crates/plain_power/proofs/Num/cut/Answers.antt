-- `plain_power::Num::cut` meets its contract. Assumes nothing.
use Rattle.std.proofs.lemmas.Nat.{leading_length}
use Rattle.plain_power.proofs.Leading.{cut_digits}
use Rattle.plain_power.proofs.Num.cut.Goals as goal

pub overflow_sub-e : goal.overflow_sub-e
overflow_sub-e c =
    let t = leading_length 64 c.args.v c.ranges.v.fits in
    (cut_digits _ c.requires.0 c.requires.1 _ t.0 t.1 t.2 t.3).0

pub returns : goal.returns
returns c =
    let t = leading_length 64 c.args.v c.ranges.v.fits in
    (cut_digits _ c.requires.0 c.requires.1 _ t.0 t.1 t.2 t.3).1

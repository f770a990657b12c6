-- `index::both` meets its contract. Assumes nothing.
use Prim.Native.Nat.{◌^◌, ◌<◌}
use lib.Dec.{lit<}
use native.Mathlib.Omega.{arith}
use Rattle.number.proofs.Divisions.{div_ceil_named}
use Rattle.index.specs.Attained.{millionths_down}
use Rattle.index.proofs.Rounding.{work_high, divisible, down_within, lower_alone, upper_alone, lower_by_factor, upper_by_factor}
use Rattle.index.proofs.both.Goals as goal

pub overflow_mul-work : goal.overflow_mul-work
overflow_mul-work c = omega (arith, work_high c.requires)

pub both_scaled-q-requires : goal.both_scaled-q-requires
both_scaled-q-requires c = divisible c.requires _ (omega arith)

pub returns-then-c-eq1073741824 : goal.returns-then-c-eq1073741824
returns-then-c-eq1073741824 c =
    let z = c.requires in
    let q = c.both_scaled-q.ensures in
    let one = c.if-c-eq1073741824.true in
    record { lower_value = lower_alone z one q.floor; upper_value = upper_alone z one q.ceil }

pub both_scaled-q-requires-2 : goal.both_scaled-q-requires-2
both_scaled-q-requires-2 c = divisible c.requires _ (omega arith)

pub div_ceil-upper-requires : goal.div_ceil-upper-requires
div_ceil-upper-requires c = omega (arith, (down_within c.requires.factored).least)

pub returns : goal.returns
returns c =
    let z = c.requires in
    let q = c.both_scaled-q-2.ensures in
    let some : 0 < millionths_down c.args.c = omega (arith, (down_within z.factored).least) in
    record {
      lower_value = rw (c.div_ceil-up.ensures, div_ceil_named _ (2 ^ 30) (lit< tt)) (lower_by_factor z q.floor);
      upper_value = rw (c.div_ceil-upper.ensures, div_ceil_named _ _ some) (upper_by_factor z q.ceil);
    }

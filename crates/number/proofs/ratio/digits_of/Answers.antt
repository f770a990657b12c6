-- `number::ratio::digits_of` meets its contract. Assumes nothing.
use native.Mathlib.Nat.{div-le_self, lt_of_le_of_lt}
use Prim.Native.Nat.{ℕ, ◌-◌, ◌/◌, ◌^◌, ◌≤◌, ◌<◌}
use Rattle.std.specs.Int.{div_ceil}
use Rattle.std.specs.Int.Count.{count_leading_zeros}
use Rattle.std.proofs.lemmas.Nat.{leading_length}
use Rattle.number.specs.Ratio.{Moderate, Scaled}
use Rattle.number.proofs.Ratios.{thirds}
use Rattle.number.proofs.ratio.digits_of.Goals as goal

counted : (n d : ℕ) → n < 2 ^ 64 → Moderate n d
    → (div_ceil (64 - count_leading_zeros 64 (n / d)) 3 ≤ 21) × Scaled n d (21 - div_ceil (64 - count_leading_zeros 64 (n / d)) 3)
counted n d fits given =
    let t = leading_length 64 (n / d) (lt_of_le_of_lt (div-le_self n d) fits) in
    thirds _ t.0 given t.1 t.2 t.3

pub overflow_sub-result : goal.overflow_sub-result
overflow_sub-result c =
    let at = c in
    rw c.div_ceil.ensures (counted _ _ at.ranges.n.fits at.requires).0

pub returns : goal.returns
returns c =
    let at = c in
    rw c.div_ceil.ensures (counted _ _ at.ranges.n.fits at.requires).1

-- The numbers of the table and of the straight line, each computed once to be what it stands for. Assumes nothing.
use mathlib.Core.Path.{◌≡◌, refl, ap}
use mathlib.Core.Bool.{Bool}
use Prim.Native.Nat.{ℕ, ◌+◌, ◌-◌, ◌*◌, ◌/◌, ◌^◌, ◌≤◌, ◌<◌}
use native.Mathlib.Nat.{le_trans, le_of_eq, mul-le-mul_left, mul-le-mul_right}
use native.Mathlib.Omega.{arith}
use lib.Dec.{leb, ltb, T, leb→le, ltb→lt, lit≤}
use lib.ListN.{get_or}
use Rattle.power.specs.Table.{coarses, middles, fines}
use Rattle.power.specs.Steps.{first_digit, slope, inverse_slope, short}
use Rattle.formula.proofs.Tables.{both, both_left, both_right, at}
use Rattle.power.proofs.Twos.{AtMost, AtLeast, most_down, LeastUp, most_finer, least_finer, most_line, least_line}
use Rattle.power.proofs.Chains.{squared_up, squared_down, up_most, down_least}

-- ── The table ───────────────────────────────────────────────────────────────────────────────

-- d is 2^(e / 2^32) in units of 2^-63, rounded down.
pub record Factor (e d : ℕ) : Type 0 where
  pub low : 2 ^ 63 ≤ d
  pub high : d < 2 ^ 64
  pub most : AtMost d (2 ^ 63) e (2 ^ 32)
  pub least : AtLeast (d + 1) (2 ^ 63) e (2 ^ 32)

-- That it is 2^(i / 2^k) is computed: d and the next number, in units of 2^-96 and squared k times, lie on the two sides of 2^i.
power? : (k i d : ℕ) → Bool
power? k i d =
    both (both (leb (2 ^ 63) d) (ltb d (2 ^ 64)))
    (both (leb (squared_up (2 ^ 96) k (d * 2 ^ 33)) (2 ^ i * 2 ^ 96)) (leb (2 ^ i * 2 ^ 96) (squared_down (2 ^ 96) k ((d + 1) * 2 ^ 33))))

is_power : (k h i d : ℕ) → 2 ^ k * 2 ^ h ≡ 2 ^ 32 → T (power? k i d) → Factor (i * 2 ^ h) d
unfolding power?
is_power k h i d whole t =
    let low = leb (2 ^ 63) d in
    let high = ltb d (2 ^ 64) in
    let most = leb (squared_up (2 ^ 96) k (d * 2 ^ 33)) (2 ^ i * 2 ^ 96) in
    let least = leb (2 ^ i * 2 ^ 96) (squared_down (2 ^ 96) k ((d + 1) * 2 ^ 33)) in
    let fits = both_left (both low high) (both most least) t in
    let sides = both_right (both low high) (both most least) t in
    let below = up_most (2 ^ 96) k (d * 2 ^ 33) i (lit≤ tt) (leb→le _ _ (both_left most least sides)) in
    let above = down_least (2 ^ 96) k ((d + 1) * 2 ^ 33) i (lit≤ tt) (leb→le _ _ (both_right most least sides)) in
    record {
      low = leb→le _ _ (both_left low high fits);
      high = ltb→lt _ _ (both_right low high fits);
      most = rw whole at (most_finer (2 ^ h) (most_down {v = d} {w = 2 ^ 63} (lit≤ tt) (omega arith) below));
      least = rw whole at (least_finer (2 ^ h) (LeastUp {v = d + 1} {w = 2 ^ 63} (lit≤ tt) (omega arith) above));
    }

-- Where the digit is c, the entry takes a number to no more than 2^63, and to no less than w below it.
pub record Takes (scale c w d : ℕ) : Type 0 where
  pub fits : c < scale
  pub up : (scale - c) * d ≤ scale * 2 ^ 63
  pub down : scale * 2 ^ 63 ≤ (scale - (c + 1)) * d + scale * w

takes? : (scale c w d : ℕ) → Bool
takes? scale c w d = both (ltb c scale) (both (leb ((scale - c) * d) (scale * 2 ^ 63)) (leb (scale * 2 ^ 63) ((scale - (c + 1)) * d + scale * w)))

is_taking : (scale c w d : ℕ) → T (takes? scale c w d) → Takes scale c w d
unfolding takes?
is_taking scale c w d t =
    let a = ltb c scale in
    let b = leb ((scale - c) * d) (scale * 2 ^ 63) in
    let e = leb (scale * 2 ^ 63) ((scale - (c + 1)) * d + scale * w) in
    let r = both_right a (both b e) t in
    record { fits = ltb→lt _ _ (both_left a (both b e) t); up = leb→le _ _ (both_left b e r); down = leb→le _ _ (both_right b e r) }

-- What is left to 2^63, at most, after each digit.
abbrev pub first_left : ℕ
first_left = 311470000000000000

abbrev pub second_left : ℕ
second_left = 11711000000000000

abbrev pub third_left : ℕ
third_left = 203360000000000

-- One computed test for each part of the table.
pub coarse_is : (i : ℕ) → i < 32 → Factor (i * 2 ^ 27) (get_or coarses i 0)
unfolding coarses power? squared_up squared_down
coarse_is i h = is_power 5 27 i _ refl (at (λ i. power? 5 i (get_or coarses i 0)) 32 tt i h)

pub middle_is : (i : ℕ) → i < 50 → Factor (i * 2 ^ 22) (get_or middles i 0)
unfolding middles power? squared_up squared_down
middle_is i h = is_power 10 22 i _ refl (at (λ i. power? 10 i (get_or middles i 0)) 50 tt i h)

pub fine_is : (i : ℕ) → i < 61 → Factor (i * 2 ^ 17) (get_or fines i 0)
unfolding fines power? squared_up squared_down
fine_is i h = is_power 15 17 i _ refl (at (λ i. power? 15 i (get_or fines i 0)) 61 tt i h)

pub middle_takes : (i : ℕ) → i < 50 → Takes 1477 i second_left (get_or middles i 0)
unfolding middles takes?
middle_takes i h = is_taking 1477 i second_left _ (at (λ i. takes? 1477 i second_left (get_or middles i 0)) 50 tt i h)

pub fine_takes : (i : ℕ) → i < 61 → Takes 47274 i third_left (get_or fines i 0)
unfolding fines takes?
fine_takes i h = is_taking 47274 i third_left _ (at (λ i. takes? 47274 i third_left (get_or fines i 0)) 61 tt i h)

-- The first digit's, for a number from (64 + i)/64 to (65 + i)/64.
pub record Starts (i c d : ℕ) : Type 0 where
  pub few : c < 32
  pub up : (65 + i) * d ≤ 2 ^ 70
  pub down : 2 ^ 70 ≤ (64 + i) * d + first_left * 2 ^ 7

starts? : (i c d : ℕ) → Bool
starts? i c d = both (ltb c 32) (both (leb ((65 + i) * d) (2 ^ 70)) (leb (2 ^ 70) ((64 + i) * d + first_left * 2 ^ 7)))

is_start : (i c d : ℕ) → T (starts? i c d) → Starts i c d
unfolding starts?
is_start i c d t =
    let a = ltb c 32 in
    let b = leb ((65 + i) * d) (2 ^ 70) in
    let e = leb (2 ^ 70) ((64 + i) * d + first_left * 2 ^ 7) in
    let r = both_right a (both b e) t in
    record { few = ltb→lt _ _ (both_left a (both b e) t); up = leb→le _ _ (both_left b e r); down = leb→le _ _ (both_right b e r) }

pub start_is : (i : ℕ) → i < 64 → Starts i (first_digit i) (get_or coarses (first_digit i) 0)
unfolding first_digit coarses starts?
start_is i h = is_start i _ _ (at (λ i. starts? i (first_digit i) (get_or coarses (first_digit i) 0)) 64 tt i h)

-- ── The straight line ───────────────────────────────────────────────────────────────────────

-- One part of the exponent, 2^(1 / 2^32), from below and from above.
part_most : AtMost (2 ^ 64 + slope) (2 ^ 64) 1 (2 ^ 32)
unfolding squared_up
part_most =
    most_down {t = 2 ^ 96 + slope * 2 ^ 32} {u = 2 ^ 96} (lit≤ tt) (lit≤ tt) (up_most (2 ^ 96) 32 (2 ^ 96 + slope * 2 ^ 32) 1 (lit≤ tt) (lit≤ tt))

part_least : AtLeast (2 ^ 50) (2 ^ 50 - 181705) 1 (2 ^ 32)
unfolding squared_down
part_least =
    LeastUp {t = 2 ^ 96} {u = 2 ^ 96 - 181705 * 2 ^ 46} (lit≤ tt) (lit≤ tt) (down_least (2 ^ 96 - 181705 * 2 ^ 46) 32 (2 ^ 96) 1 (lit≤ tt) (lit≤ tt))

-- g parts of it, where those are few.
pub line_most : (g : ℕ) → AtMost (2 ^ 64 + g * slope) (2 ^ 64) g (2 ^ 32)
line_most g = most_line slope g (lit≤ tt) part_most

line_part : (g x : ℕ) → g ≤ 131071 → g * (slope * 262138) ≤ x + 2 ^ 32 * 262138 → g * (2 ^ 32 * 181705) + 2 ^ 40 ≤ x + 2 ^ 52
line_part g x top h = omega arith

line_sum : (d w x : ℕ) → w + d ≡ 2 ^ 82 → d + 2 ^ 40 ≤ x + 2 ^ 52 → 2 ^ 82 + 2 ^ 40 ≤ w + x + 2 ^ 52
line_sum d w x e h = omega arith

slack : (g y z : ℕ) → g < 2 ^ 17 → z + g * 181705 ≡ 2 ^ 50 → g * slope < (y + 1) * 2 ^ 32 → 2 ^ 112 ≤ (2 ^ 32 + y) * z * (2 ^ 30 + 1)
slack g y z small e up =
    let top : g ≤ 131071 = omega arith in
    let b : y * (2 ^ 32 * 262138) ≤ y * z = mul-le-mul_left y (omega arith) in
    let c : g * (slope * 262138) ≤ y * (2 ^ 32 * 262138) + 2 ^ 32 * 262138 = omega arith in
    let a : 2 ^ 82 + 2 ^ 40 ≤ 2 ^ 32 * z + y * z + 2 ^ 52 = line_sum (g * (2 ^ 32 * 181705)) (2 ^ 32 * z) (y * z) (omega arith) (line_part g (y * z) top (le_trans c (omega arith))) in
    grown ((2 ^ 32 + y) * z) (omega arith)
  where
    grown : (x : ℕ) → 2 ^ 82 + 2 ^ 40 ≤ x + 2 ^ 52 → 2 ^ 112 ≤ x * (2 ^ 30 + 1)
    grown x h = omega arith

coarser : (x y : ℕ) → y * 2 ^ 32 ≤ x → (2 ^ 32 + y) * 2 ^ 32 ≤ 2 ^ 64 + x
coarser x y h = omega arith

pub line_least : (g : ℕ) → g < 2 ^ 17 → AtLeast ((2 ^ 64 + g * slope) * (2 ^ 30 + 1)) (2 ^ 64 * 2 ^ 30) g (2 ^ 32)
line_least g small =
    let x = g * slope in
    let y = x / 2 ^ 32 in
    let z = 2 ^ 50 - g * 181705 in
    let e : z + g * 181705 ≡ 2 ^ 50 = omega arith in
    let pos : 0 < z = omega arith in
    let up : x < (y + 1) * 2 ^ 32 = omega arith in
    let down : y * 2 ^ 32 ≤ x = omega arith in
    LeastUp pos (wide (2 ^ 32 + y) (2 ^ 64 + x) z (2 ^ 30 + 1) (slack g y z small e up) (coarser x y down)) (least_line 181705 g z (lit≤ tt) refl pos e part_least)
  where
    wide : (a b z v : ℕ) → 2 ^ 112 ≤ a * z * v → a * 2 ^ 32 ≤ b → 2 ^ 112 * 2 ^ 32 ≤ b * v * z
    wide a b z v h k = le_trans (mul-le-mul_right (2 ^ 32) h) (le_trans (le_of_eq (omega arith)) (le_trans (mul-le-mul_right (z * v) k) (le_of_eq (omega arith))))

-- Two units are more than what one rounding to 32 bits loses, and those after it; eight are less than 23 units of 2^-34.
pub loss_most : AtMost ((2 ^ 32 + 1) * (2 ^ 61 + 1) ^ 6) (2 ^ 32 * (2 ^ 61) ^ 6) 2 (2 ^ 32)
loss_most = most_down {t = 2 ^ 64 + 2 * slope} {u = 2 ^ 64} (lit≤ tt) (lit≤ tt) (line_most 2)

pub eight_least : AtLeast (2 ^ 34 + 23) (2 ^ 34) 8 (2 ^ 32)
eight_least =
    LeastUp {t = 2 ^ 50} {u = 2 ^ 50 - 8 * 181705} (lit≤ tt) (lit≤ tt)
    (least_line 181705 8 (2 ^ 50 - 8 * 181705) (lit≤ tt) refl (lit≤ tt) refl part_least)

-- The logarithm's rest, where w is left to 2^63: r parts of the exponent are no more than that, and r + 5 are no less.
finer_least : AtLeast (2 ^ 64) (2 ^ 64 - 2977044472) 1 (2 ^ 32)
unfolding squared_down
finer_least =
    LeastUp {t = 2 ^ 96} {u = 2 ^ 96 - 2977044472 * 2 ^ 32} (lit≤ tt) (lit≤ tt) (down_least (2 ^ 96 - 2977044472 * 2 ^ 32) 32 (2 ^ 96) 1 (lit≤ tt) (lit≤ tt))

pub rest_least : (w t r : ℕ) → 0 < t → w + t ≡ 2 ^ 63 → r * 2 ^ 43 ≤ w / 2 ^ 20 * inverse_slope → AtLeast (2 ^ 63) t r (2 ^ 32)
rest_least w t r pos e h =
    let a : r * 2 ^ 63 ≤ w * inverse_slope = omega arith in
    let b : r * 2977044472 ≤ 2 * w = omega (arith, a) in
    let y = 2 ^ 64 - r * 2977044472 in
    let y_is : y + r * 2977044472 ≡ 2 ^ 64 = omega arith in
    let more : 2 * t ≤ y = omega arith in
    let some : 0 < y = omega arith in
    LeastUp some (doubled t y more) (least_line 2977044472 r y (lit≤ tt) refl some y_is finer_least)
  where
    doubled : (t y : ℕ) → 2 * t ≤ y → 2 ^ 64 * t ≤ 2 ^ 63 * y
    doubled t y h = omega arith

rest_few : (w r : ℕ) → w ≤ third_left + 2 ^ 32 + 2 → r * 2 ^ 43 ≤ w / 2 ^ 20 * inverse_slope → r ≤ 136700
rest_few w r small h = omega arith

rest_enough : (w r : ℕ) → r ≤ 136700 → w * inverse_slope < (r + 1) * 2 ^ 63 + 2 ^ 20 * inverse_slope → w ≤ (r + short) * 1488489409
rest_enough w r few h = omega arith

rest_over : (z w t u x : ℕ) → w + t ≡ u → z * w ≤ x * t → u * z ≤ (z + x) * t
rest_over z w t u x e h = omega (arith, ap (λ (k : ℕ). z * k) e)

pub rest_most : (w t r : ℕ) → w ≤ third_left + 2 ^ 32 + 2 → w + t ≡ 2 ^ 63 → r * 2 ^ 43 ≤ w / 2 ^ 20 * inverse_slope → w / 2 ^ 20 * inverse_slope < (r + 1) * 2 ^ 43 → AtMost (2 ^ 63) t (r + short) (2 ^ 32)
rest_most w t r small e down up =
    let a : w * inverse_slope < (r + 1) * 2 ^ 63 + 2 ^ 20 * inverse_slope = wider w r up in
    let b : w ≤ (r + short) * 1488489409 = rest_enough w r (rest_few w r small down) a in
    let low : 9223168636854775808 ≤ t = omega arith in
    let c : 2 ^ 64 * w ≤ 2 ^ 64 * ((r + short) * 1488489409) = mul-le-mul_left (2 ^ 64) b in
    let d : (r + short) * (2 ^ 64 * 1488489409) ≤ (r + short) * (slope * 9223168636854775808) = mul-le-mul_left (r + short) (lit≤ tt) in
    let f : (r + short) * slope * 9223168636854775808 ≤ (r + short) * slope * t = mul-le-mul_left ((r + short) * slope) low in
    most_down (lit≤ tt) (rest_over (2 ^ 64) w t (2 ^ 63) ((r + short) * slope) e (le_trans c (le_trans (le_of_eq (omega arith)) (le_trans d (le_trans (le_of_eq (omega arith)) f))))) (line_most (r + short))
  where
    wider : (w r : ℕ) → w / 2 ^ 20 * inverse_slope < (r + 1) * 2 ^ 43 → w * inverse_slope < (r + 1) * 2 ^ 63 + 2 ^ 20 * inverse_slope
    wider w r h = omega arith

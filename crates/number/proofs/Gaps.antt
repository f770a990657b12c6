-- How near two numbers are, in millionths of a millionth, through products and roundings. Assumes nothing.
use mathlib.Core.Path.{◌≡◌}
use Prim.Native.Nat.{ℕ, ◌+◌, ◌*◌, ◌≤◌, ◌<◌, min, max}
use native.Mathlib.Nat.{mul-le-mul_left, mul-le-mul_right, le_of_mul-le-mul_right, mul-pos, le_of_lt, lt_of_not-le}
use native.Mathlib.Decide.{dec_le}
use native.Mathlib.Omega.{arith}
use lib.Dec.{lit<}
use Rattle.number.specs.Division.{Floor, Ceil}

-- b is at most a and k millionths of a millionth of it.
pub record Gap (k a b : ℕ) : Type 0 where
  pub gap : b * 1000000000000 ≤ a * (1000000000000 + k)

pub gap_more : {j k a b : ℕ} → j ≤ k → Gap j a b → Gap k a b
gap_more {a = a} le h = record { gap = omega (arith, h.gap, mul-le-mul_left a le) }

-- Of two gaps one after the other; e is for their product.
pub gap_trans : {j k a b c : ℕ} (e : ℕ) → j * k ≤ e * 1000000000000 → Gap j a b → Gap k b c → Gap (j + k + e) a c
gap_trans {j} {k} {a} {b} {c} e small h g =
    let x : b * 1000000000000 * (1000000000000 + k) ≤ a * (1000000000000 + j) * (1000000000000 + k) = mul-le-mul_right (1000000000000 + k) h.gap in
    let y : a * (j * k) ≤ a * (e * 1000000000000) = mul-le-mul_left a small in
    record { gap = le_of_mul-le-mul_right {k = 1000000000000} (omega (arith, g.gap)) (lit< tt) }

pub gap_times : {k a b : ℕ} (n : ℕ) → Gap k a b → Gap k (n * a) (n * b)
gap_times n h = record { gap = omega (arith, mul-le-mul_left n h.gap) }

-- Of two products: the one factor's gap after the other's.
pub gap_product : {j k a a' b b' : ℕ} (e : ℕ) → j * k ≤ e * 1000000000000 → Gap j a a' → Gap k b b' → Gap (j + k + e) (a * b) (a' * b')
gap_product {j} {a = a} {a'} {b} e small h g =
    let first : Gap j (a * b) (a' * b) = record { gap = omega (arith, mul-le-mul_right b h.gap) } in
    gap_trans e small first (gap_times a' g)

-- Of x over w' rounded down and x' over w rounded up, but for the two roundings.
pub gap_rounded : {k x x' w w' q r : ℕ} → 0 < w → 0 < w' → Gap k (x * w) (x' * w') → Floor x w' q → Ceil x' w r
    → r * 1000000000000 ≤ q * (1000000000000 + k) + (2000000000000 + k)
gap_rounded {k} {w = w} {w'} {q} {r} pos pos' h f c =
    let a : r * w * (w' * 1000000000000) ≤ (_ + w) * (w' * 1000000000000) = mul-le-mul_right (w' * 1000000000000) (le_of_lt c.previous_below) in
    let b : _ * (w * (1000000000000 + k)) ≤ (q + 1) * w' * (w * (1000000000000 + k)) = mul-le-mul_right (w * (1000000000000 + k)) (le_of_lt f.next_above) in
    le_of_mul-le-mul_right {k = w * w'} (omega (arith, h.gap)) (mul-pos pos pos')

-- And with them, where the divisor is one and the quotient not small.
pub gap_cut : {k x x' d q r : ℕ} (e : ℕ) → 0 < d → Gap k x x' → Floor x d q → Ceil x' d r → 2000000000000 + k ≤ q * e → Gap (k + e) q r
gap_cut {k} {x} {x'} {d} e pos h f c few =
    let wide : Gap k (x * d) (x' * d) = record { gap = omega (arith, mul-le-mul_right d h.gap) } in
    record { gap = omega (arith, gap_rounded pos pos wide f c) }

-- Or where a limit keeps both quotients from falling below m.
pub gap_at_least : {k x x' w w' q r : ℕ} (m e : ℕ) → 0 < w → 0 < w' → Gap k (x * w) (x' * w') → Floor x w' q → Ceil x' w r → 2000000000000 + k ≤ m * e
    → Gap (k + e) (max q m) (max r m)
gap_at_least {k} {q = q} m e pos pos' h f c few =
    let up : q * k ≤ max q m * k = mul-le-mul_right k (omega arith) in
    let more : m * e ≤ max q m * e = mul-le-mul_right e (omega arith) in
    record { gap = omega (arith, gap_rounded pos pos' h f c) }

-- A limit from above brings two numbers no farther apart.
pub gap_at_most : {k a b : ℕ} (m : ℕ) → Gap k a b → Gap k (min a m) (min b m)
gap_at_most {k} {a} {b} m h = elim (dec_le a m) [ yes l ↦ first (omega arith) | no l ↦ second (omega (arith, lt_of_not-le l)) ]
  where
    first : min a m ≡ a → Gap k (min a m) (min b m)
    first e = rw e (record { gap = omega (arith, h.gap) })

    second : min a m ≡ m → Gap k (min a m) (min b m)
    second e = rw e (record { gap = omega arith })

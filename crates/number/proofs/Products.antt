-- Products with a fraction in units of 2^-30: by the digits of both above and below 2^30, and the laws of their two roundings.
-- Assumes nothing.
use mathlib.Core.Path.{◌≡◌, ap}
use Prim.Native.Nat.{ℕ, ◌+◌, ◌*◌, ◌/◌, ◌%◌, ◌^◌, ◌≤◌, ◌<◌}
use native.Mathlib.Nat.{mul-le-mul, mul-le-mul_right, le_refl, le_trans, div-add-mod'}
use native.Mathlib.Omega.{arith}
use lib.Dec.{lit<}
use Rattle.number.specs.Division.{Divided, Floor, Ceil}
use Rattle.number.specs.Product.{scaled_down, scaled_up}
use Rattle.number.proofs.Divisions.{floor_is, ceil_is, floor_greatest, floor_ceil, ceil_order}
use Rattle.number.proofs.Gaps.{Gap, gap_cut}

-- ── Digits ──────────────────────────────────────────────────────────────────────────────────

-- n = t 2^30 + s and p = h 2^30 + l, multiplied out.
multiplied : (t s h l n p : ℕ) → t * 2 ^ 30 + s ≡ n → h * 2 ^ 30 + l ≡ p → (n * h + t * l) * 2 ^ 30 + s * l ≡ n * p
multiplied t s h l n p e f =
    let a : n * (h * 2 ^ 30 + l) ≡ n * p = ap (λ (z : ℕ). n * z) f in
    let b : (t * 2 ^ 30 + s) * l ≡ n * l = ap (λ (z : ℕ). z * l) e in
    omega arith

module _ (n p : ℕ) where
  by_digits : (n * (p / 2 ^ 30) + n / 2 ^ 30 * (p % 2 ^ 30)) * 2 ^ 30 + n % 2 ^ 30 * (p % 2 ^ 30) ≡ n * p
  by_digits = multiplied _ _ _ _ n p (div-add-mod' n (2 ^ 30)) (div-add-mod' p (2 ^ 30))

  pub product_divided : Divided (n * p) (2 ^ 30) (n * (p / 2 ^ 30) + n / 2 ^ 30 * (p % 2 ^ 30) + n % 2 ^ 30 * (p % 2 ^ 30) / 2 ^ 30) (n % 2 ^ 30 * (p % 2 ^ 30) % 2 ^ 30)
  product_divided = record { whole = omega (arith, by_digits); rest = omega arith }

  -- What fits 64 bits.
  pub product_fits : n * p < 2 ^ 93 → (n * (p / 2 ^ 30) + n / 2 ^ 30 * (p % 2 ^ 30) < 2 ^ 63) × (n % 2 ^ 30 * (p % 2 ^ 30) ≤ 2 ^ 60)
  product_fits small =
      let x : n % 2 ^ 30 ≤ 2 ^ 30 = omega arith in
      let y : p % 2 ^ 30 ≤ 2 ^ 30 = omega arith in
      (omega (arith, by_digits), mul-le-mul x y)

-- ── Roundings ───────────────────────────────────────────────────────────────────────────────

pub scaled_floor : (n p : ℕ) → Floor (n * p) (2 ^ 30) (scaled_down n p)
unfolding scaled_down
scaled_floor n p = floor_is _ _ (lit< tt)

pub scaled_ceil : (n p : ℕ) → Ceil (n * p) (2 ^ 30) (scaled_up n p)
unfolding scaled_up
scaled_ceil n p = ceil_is _ _ (lit< tt)

pub scaled_order : (n n' p p' : ℕ) → n ≤ n' → p ≤ p' → scaled_down n p ≤ scaled_up n' p'
scaled_order n n' p p' h k = le_trans (floor_ceil (scaled_floor n p) (scaled_ceil n p)).0 (ceil_order (mul-le-mul h k) (le_refl _) (scaled_ceil n p) (scaled_ceil n' p'))

-- How near they are: m units are in the lower product, and e is for the two roundings.
pub scaled_gap : {k : ℕ} (n n' p p' m e : ℕ) → m * 2 ^ 30 ≤ n * p → 2000000000000 + k ≤ m * e → Gap k (n * p) (n' * p')
    → Gap (k + e) (scaled_down n p) (scaled_up n' p')
scaled_gap n n' p p' m e some few h =
    gap_cut e (lit< tt) h (scaled_floor n p) (scaled_ceil n' p') (le_trans few (mul-le-mul_right e (floor_greatest (scaled_floor n p) m some)))

-- Newton's rule for whole roots, over the exponent e + 1: the mean of r, counted e times, and n / r^e. Assumes nothing.
use Prim.Native.Nat.{ℕ, zero, suc, ◌+◌, ◌*◌, ◌/◌, ◌^◌, ◌≤◌, ◌<◌}
use native.Mathlib.Nat.{le_of_eq, le_of_lt, le_trans, le_dest, lt_of_not-le, mul-le-mul_left, mul-le-mul_right, lt-div-mul-add, div-lt_iff_lt-mul, pow-suc, pow-zero}
use native.Mathlib.Decide.{dec_le}
use native.Mathlib.Omega.{arith}
use Rattle.formula.proofs.Wholes.{pow_one}

-- Twice a product is at most the sum of the squares.
means : (u v : ℕ) → 2 * (u * v) ≤ u * u + v * v
means u v = elim (dec_le u v) [ yes h ↦ more u v h | no h ↦ le_trans (le_of_eq (omega arith)) (le_trans (more v u (le_of_lt (lt_of_not-le h))) (le_of_eq (omega arith))) ]
  where
    more : (a b : ℕ) → a ≤ b → 2 * (a * b) ≤ a * a + b * b
    more a b h =
        let w = le_dest h in
        rw (← w.1) (omega arith)

mean_next : (e m x w p : ℕ) → suc e * (m * w) ≤ p + e * (w * x) → suc (suc e) * (m * (w * x)) ≤ p * m + suc e * (w * x * x)
mean_next e m x w p was = omega (arith, mul-le-mul_right m was, mul-le-mul_left (suc e * w) (means m x))

-- Of m and e times x, the mean power is at least the product.
mean : (e m x : ℕ) → suc e * (m * x ^ e) ≤ m ^ suc e + e * x ^ suc e
mean zero m x = rw (pow-zero x, pow_one m) (omega arith)
mean (suc e) m x =
    rw (pow-suc m (suc e), pow-suc x (suc e), pow-suc x e)
    (mean_next e m x (x ^ e) (m ^ suc e) (rw (pow-suc x e) at (mean e m x)))

-- The rule never falls below the root, wherever it starts: with q for n / r^e, n is below the power of every m that is above the mean.
pub newton : (e n r q m : ℕ) → n < (q + 1) * r ^ e → e * r + q < suc e * m → n < m ^ suc e
newton e n r q m below sum =
    let share : (e * r + (q + 1)) * r ^ e ≤ suc e * m * r ^ e = mul-le-mul_right (r ^ e) (omega arith) in
    let least : suc e * (m * r ^ e) ≤ m ^ suc e + e * (r ^ e * r) = rw (pow-suc r e) at (mean e m r) in
    omega arith

-- Nothing but a positive number is above a root.
pub above_root : (n r p : ℕ) → n < p * r → 0 < r
above_root n zero p h = absurd (omega arith)
above_root n (suc m) p h = omega arith

-- Above the root n / r^e is below r, and the mean falls.
pub part_below : (n r p : ℕ) → 0 < p → n < p * r → n / p < r
part_below n r p pos h = (div-lt_iff_lt-mul {k = p} {x = n} {y = r} pos).1 (omega arith)

-- ── The square root ─────────────────────────────────────────────────────────────────────────

pub newton_square : (n r : ℕ) → 0 < r → n < ((r + n / r) / 2 + 1) ^ 2
newton_square n r pos =
    let below : n < (n / r + 1) * r = omega (arith, lt-div-mul-add {a = n} pos) in
    newton 1 n r (n / r) ((r + n / r) / 2 + 1) (rw (pow_one r) below) (omega arith)

pub square_falls : (n r : ℕ) → n < r * r → (r + n / r) / 2 < r
square_falls n r h = omega (arith, part_below n r r (above_root n r r h) h)

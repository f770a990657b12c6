-- Powers with the exponents of f_j, on either side. Assumes nothing.
use mathlib.Core.Path.{◌≡◌}
use Prim.Native.Nat.{ℕ, ◌+◌, ◌*◌, ◌^◌, ◌≤◌, ◌<◌}
use native.Mathlib.Nat.{suc-pred-eq_of_pos, pow-suc}
use native.Mathlib.Omega.{arith}
use lib.Dec.{lit<}
use Rattle.formula.specs.Formula.{Frac, ◌//◌, ◌≼◌, ◌⊹◌, ◌·◌, ◌↥◌, Side, above, at_least, LiesPower}
use Rattle.formula.proofs.Wholes.{pow_one, square, cube}
use Rattle.formula.proofs.Fractions.{◌≈◌, ≈-sym, ↥-product, lies-≈, lies_trans, lies-·}
use Rattle.formula.proofs.Powers.{power_sum, power_power, power_half, power_exponent, power_above}
use Rattle.number.proofs.Gaps.{Gap}
use Rattle.power.specs.declared.Bounds.{Bounds}
use Rattle.power.specs.Power.{Power}

-- Powers of one exponent multiply as their bases do.
pub power_product : {s : Side} {t t' x x' e : Frac} → LiesPower s t x e → LiesPower s t' x' e → LiesPower s (t · t') (x · x') e
power_product {s} {t} {t'} {x} {x'} {e} h k =
    record { whole = lies_trans (lies-≈ s (↥-product t t' e.den)) (lies_trans (lies-· h.whole k.whole) (lies-≈ s (≈-sym (↥-product x x' e.num)))) }

-- The square of a sixth root is a cube root.
pub power_third : {s : Side} {t x : Frac} → LiesPower s t x (1 // 6) → LiesPower s (t · t) x (1 // 3)
power_third h =
    let same : 1 // 6 ⊹ 1 // 6 ≈ 1 // 3 = omega arith in
    power_exponent same (power_sum h h)

power_two : (s : Side) (x : Frac) → LiesPower s (x · x) x (2 // 1)
power_two s x =
    let same : (x · x) ↥ 1 ≈ x ↥ 2 = record { cross = rw (pow_one (x.num * x.num), pow_one (x.den * x.den), square x.num, square x.den) } in
    record { whole = lies-≈ s same }

-- 2.3 is 2 and 3/10.
pub power_froude : {s : Side} {t x : Frac} → LiesPower s t x (3 // 10) → LiesPower s (x · x · t) x (23 // 10)
power_froude {s} {x = x} h =
    let same : 2 // 1 ⊹ 3 // 10 ≈ 23 // 10 = omega arith in
    power_exponent same (power_sum (power_two s x) h)

-- 1 + 3/10 d/a is above the power 3/10 of 1 + d/a: it is above the root of 1 + 3/5 d/a, and that above the power 3/5.
fifths : (a d : ℕ) → (a + d) ^ 3 * (5 * a) ^ 5 ≤ (5 * a + 3 * d) ^ 5 * a ^ 3
fifths a d = rw (pow_five (5 * a), pow_five (5 * a + 3 * d), cube (a + d), cube a) (omega arith)
  where
    pow_five : (x : ℕ) → x ^ 5 ≡ x * x * x * x * x
    pow_five x = rw (pow-suc x 4, pow-suc x 3, cube x)

pub power_stretch : (a d : ℕ) → 0 < a → LiesPower above ((10 * a + 3 * d) // (10 * a)) ((a + d) // a) (3 // 10)
power_stretch a d pos =
    let pos5 : 0 < 5 * a = omega arith in
    let pos10 : 0 < 10 * a = omega arith in
    let same : 3 // 5 · 1 // 2 ≈ 3 // 10 = omega arith in
    let first : LiesPower above ((5 * a + 3 * d) // (5 * a)) ((a + d) // a) (3 // 5) = power_above (5 * a + 3 * d) (a + d) 3 pos5 pos (lit< tt) (fifths a d) in
    let c : (5 * a + 3 * d) // (5 * a) ≼ (10 * a + 3 * d) // (10 * a) · (10 * a + 3 * d) // (10 * a) =
    record { cross = rw (suc-pred-eq_of_pos pos5, suc-pred-eq_of_pos pos10) (omega arith) } in
    power_exponent same (power_power first (power_half (at_least c)))

-- How near the ends of a power are, 2^-27, in millionths of a millionth.
pub power_gap : {a b p q : ℕ} {r : Bounds} → Power a b p q r → Gap 7451 r.lo r.hi
power_gap w = record { gap = omega (arith, w.near) }

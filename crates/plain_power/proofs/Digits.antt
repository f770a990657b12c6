-- The power by roots: what the running pair holds after each digit of the exponent, and how near its two ends are. Assumes nothing.
use mathlib.Core.Path.{◌≡◌, refl, sym, ap}
use Prim.Native.Nat.{ℕ, zero, suc, ◌+◌, ◌-◌, ◌*◌, ◌^◌, ◌≤◌, ◌<◌}
use native.Mathlib.Nat.{le_trans, le_of_eq, mul-le-mul_left, mul-le-mul_right, mul-pos, mul-one, le_of_mul-le-mul_right, pow-le-pow_left}
use native.Mathlib.Nat.{pow-suc, pow-zero, suc-pred-eq_of_pos, zero-lt-suc, not-suc-le-zero, le_of_suc-le-suc}
use native.Mathlib.Omega.{arith}
use lib.Dec.{lit≤}
use lib.Pow.{pow_mono}
use Rattle.formula.specs.Formula.{◌//◌, ◌≼◌, ◌⊹◌, ◌·◌, ◌↥◌, Side, below, above, at_most, LiesPower}
use Rattle.formula.proofs.Wholes.{mul_pow, pow_mul, pow_one, one_pow}
use Rattle.formula.proofs.Fractions.{◌≈◌, lies_refl, lies-≈}
use Rattle.formula.proofs.Formulas.{power_between}
use Rattle.formula.proofs.Powers.{power_below, power_above, power_exponent, power_half, power_power, power_sum}
use Rattle.plain_power.specs.declared.Num.{Num}
use Rattle.plain_power.specs.declared.Pair.{Pair}
use Rattle.power.specs.Numbers.{unit}
use Rattle.plain_power.specs.Numbers.{val, Norm, Ready}
use Rattle.plain_power.specs.Steps.{one, lowest, higher, digits, digit_factor, means_of, unraised, raise_of}
use Rattle.plain_power.proofs.Squares.{fraction, end, val_low, val_high, Means, means_are}

-- ── The gap ─────────────────────────────────────────────────────────────────────────────────

-- With E = (2^30)^5 and F = (2^30 + 1)^5, hi/lo is at most 2^(21/n) * F/E: the digits still unknown, and what is lost to rounding.
unfoldable pub Close : (E F hi lo n : ℕ) → Type 0
Close E F hi lo n = LiesPower below ((hi * E) // (lo * F)) ((2 ^ 21) // 1) (1 // n)

halved : (n : ℕ) → 0 < n → (1 // n) · (1 // 2) ≈ 1 // (n * 2)
halved n pos =
    let twice : 0 < n * 2 = omega arith in
    record { cross = rw (suc-pred-eq_of_pos pos, suc-pred-eq_of_pos twice) (omega arith) }

-- The next pair's ratio is the root of this pair's, where nothing is lost.
close_next : (E F h l h' l' n : ℕ) → 0 < l * F → 0 < l' * F → 0 < n → h' * h' * E * l ≤ h * (l' * l' * F) → Close E F h l n → Close E F h' l' (n * 2)
unfolding Close
close_next E F h l h' l' n pos pos' npos k near =
    let c : (h' * E) // (l' * F) · (h' * E) // (l' * F) ≼ (h * E) // (l * F) =
    record { cross = rw (suc-pred-eq_of_pos pos, suc-pred-eq_of_pos pos') (omega (arith, mul-le-mul_right (E * F) k)) } in
    power_exponent (halved n npos) (power_power near (power_half (at_most c)))

-- What the two means lose, with a loss of B/A on each side and the factor's own ratio f/e.
losses : (h l u v P Q A B e f : ℕ) → P * A ≤ h * u * B → l * v * A ≤ Q * B → u * e ≤ v * f → P * (A * A * e) * l ≤ h * (Q * (B * B * f))
losses h l u v P Q A B e f up down g =
    let a : P * A * (e * l) ≤ h * u * B * (e * l) = mul-le-mul_right (e * l) up in
    let b : u * e * (h * B * l) ≤ v * f * (h * B * l) = mul-le-mul_right (h * B * l) g in
    let c : P * A * (e * l) ≤ l * v * (h * B * f) = omega arith in
    le_trans (le_of_eq (omega arith)) (le_trans (both (P * A * (e * l)) (l * v) (h * B * f) A (Q * B) c down) (le_of_eq (omega arith)))
  where
    both : (x y z a k : ℕ) → x ≤ y * z → y * a ≤ k → x * a ≤ k * z
    both x y z a k i j = omega (arith, mul-le-mul_right a i, mul-le-mul_right z j)

-- Bernoulli: (1 + 1/z)^k is at least 1 + k/z, so (1 + 1/z)^z is at least 2.
bernoulli : (z k : ℕ) → z ^ k * (z + k) ≤ (z + 1) ^ k * z
bernoulli z zero = simp pow-zero (omega arith)
bernoulli z (suc k) =
    let ih = mul-le-mul_right (z + 1) (bernoulli z k) in
    simp pow-suc (omega arith)

doubles : (z : ℕ) → 0 < z → 2 * z ^ z ≤ (z + 1) ^ z
doubles z pos = le_of_mul-le-mul_right {k = z} (omega (arith, bernoulli z z)) pos

-- So 1 + 1/z is at least the root 1/(zj) of 2^j.
small_root : (z j : ℕ) → 0 < z → 0 < j → LiesPower above ((z + 1) // z) ((2 ^ j) // 1) (1 // (z * j))
small_root z j zpos jpos =
    let d : (2 * z ^ z) ^ j ≤ ((z + 1) ^ z) ^ j = pow-le-pow_left (doubles z zpos) j in
    power_above (z + 1) (2 ^ j) 1 zpos (zero-lt-suc 0) (mul-pos zpos jpos)
    (rw (pow_one (2 ^ j), one_pow 1, ← pow_mul z z j, ← pow_mul (z + 1) z j) (le_trans (le_of_eq (sym (mul_pow 2 (z ^ z) j))) (le_trans d (le_of_eq (sym (mul-one _))))))

scale : (h l a b c d : ℕ) → 0 < a → h * a ≤ l * b → b * c ≤ a * d → h * c ≤ l * d
scale h l a b c d pos k g = le_of_mul-le-mul_right {k = a} (omega (arith, mul-le-mul_right c k, mul-le-mul_left l g)) pos

-- After z * j steps the two ends are as near as the roundings allow.
close_end : (E F hi lo z j n c d : ℕ) → 0 < z → 0 < j → n ≡ z * j → 21 ≤ j → 0 < E → 0 < lo * F → F * (z + 1) * c ≤ E * z * d → Close E F hi lo n → hi * c ≤ lo * d
unfolding Close
close_end E F hi lo z j n c d zpos jpos e big epos pos tight near =
    let more : (2 ^ 21) // 1 ≼ (2 ^ j) // 1 = record { cross = mul-le-mul_right 1 (pow_mono big) } in
    let g : (hi * E) // (lo * F) ≼ (z + 1) // z = power_between (rw e at near) (small_root z j zpos jpos) more in
    let x : hi * E * z ≤ (z + 1) * (lo * F) = rw (suc-pred-eq_of_pos zpos, suc-pred-eq_of_pos pos) at g.cross in
    scale hi lo (E * z) (F * (z + 1)) c d (mul-pos epos zpos) (omega arith) tight

-- ── One digit ───────────────────────────────────────────────────────────────────────────────

-- The digits so far are d of n: the lower end is at most that power of x, the upper end at least the next one.
abbrev pub reached : Side → ℕ → ℕ
reached below d = d
reached above d = d + 1

pub record Held (x : Pair) (d n : ℕ) (p : Pair) : Type 0 where
  pub norm : (s : Side) → Norm (end s p)
  pub holds : (s : Side) → LiesPower s (fraction (end s p)) (fraction (end s x)) (reached s d // n)
  pub near : Close ((2 ^ 30) ^ 5) ((2 ^ 30 + 1) ^ 5) (val p.hi) (val p.lo) n

one_norm : Norm one
one_norm = omega arith

ends_norm : {x : Pair} → Ready x → (s : Side) → Norm (end s x)
ends_norm ready = elim [ below ↦ ready.lo | above ↦ ready.hi ]

-- The powers 0 and 1.
power_none : (s : Side) (x : Num) → LiesPower s (fraction one) (fraction x) (0 // 1)
power_none s x =
    let same : fraction one ↥ 1 ≈ fraction x ↥ 0 = record { cross = rw (pow-zero (val x)) (omega arith) } in
    record { whole = lies-≈ s same }

power_self : (s : Side) (x : Num) → LiesPower s (fraction x) (fraction x) (1 // 1)
power_self s x = record { whole = lies_refl s _ }

pub from_one : {n : Num} → Norm n → 1 // 1 ≼ fraction n
from_one h = omega (arith, val_low h)

-- Before any digit: from x^0 to x^1.
close_none : (E F h l : ℕ) → 0 < l * F → h * E ≤ 2 ^ 21 * (l * F) → Close E F h l 1
unfolding Close
close_none E F h l pos k = power_below (h * E) (2 ^ 21) 1 pos (zero-lt-suc 0) (zero-lt-suc 0) (rw (pow_one (h * E), pow_one (l * F)) (omega arith))

pub none_held : (x : Pair) → Ready x → Held x 0 1 (unraised x)
none_held x ready =
    let upper : LiesPower above (fraction (unraised x).hi) (fraction x.hi) (1 // 1) = power_self above x.hi in
    record {
      norm = elim [ below ↦ one_norm | above ↦ ready.hi ];
      holds = elim [ below ↦ power_none below x.lo | above ↦ upper ];
      near = close_none ((2 ^ 30) ^ 5) ((2 ^ 30 + 1) ^ 5) (val x.hi) unit (lit≤ tt) (le_trans (mul-le-mul_right ((2 ^ 30) ^ 5) (val_high ready.hi)) (lit≤ tt));
    }

-- A digit is 0 or 1, and its factor is that power of x.
pub record Factor (x : Pair) (digit : ℕ) (y : Pair) : Type 0 where
  pub norm : (s : Side) → Norm (end s y)
  pub holds : (s : Side) → LiesPower s (fraction (end s y)) (fraction (end s x)) (digit // 1)
  pub near : val y.hi * 2 ^ 30 ≤ val y.lo * (2 ^ 30 + 1)

factor_is : (x : Pair) (digit : ℕ) → digit < 2 → Ready x → Factor x digit (digit_factor x digit)
unfolding digit_factor
factor_is x zero h ready =
    record { norm = elim [ below ↦ one_norm | above ↦ one_norm ]; holds = elim [ below ↦ power_none below x.lo | above ↦ power_none above x.hi ]; near = lit≤ tt }
factor_is x (suc zero) h ready = record { norm = ends_norm ready; holds = λ s. power_self s (end s x); near = ready.near }
factor_is x (suc (suc c)) h ready = absurd (not-suc-le-zero (le_of_suc-le-suc (le_of_suc-le-suc h)))

-- A higher digit: the exponent is half of what stood so far and the digit.
one_exponent : (s : Side) (d n c : ℕ) → 0 < n → (reached s d // n ⊹ c // 1) · 1 // 2 ≈ reached s (d + c * n) // (n * 2)
one_exponent s d n c pos =
    let twice : 0 < n * 2 = omega arith in
    elim s as (λ s. (reached s d // n ⊹ c // 1) · 1 // 2 ≈ reached s (d + c * n) // (n * 2)) [
      | below ↦ record { cross = rw (suc-pred-eq_of_pos pos, suc-pred-eq_of_pos twice) (omega arith) }
      | above ↦ record { cross = rw (suc-pred-eq_of_pos pos, suc-pred-eq_of_pos twice) (omega arith) }
    ]

one_held : {x p y r : Pair} (d n c : ℕ) → 0 < n → Factor x c y → Means p y r → Held x d n p → Held x (d + c * n) (n * 2) r
one_held {x} {p} {y} {r} d n c npos factor means held =
    record {
      norm = means.norm;
      holds = λ s. power_exponent (one_exponent s d n c npos) (power_power (power_sum (held.holds s) (factor.holds s)) (power_half (means.holds s)));
      near =
          close_next ((2 ^ 30) ^ 5) ((2 ^ 30 + 1) ^ 5) (val p.hi) (val p.lo) (val r.hi) (val r.lo) n
          (positive (held.norm below)) (positive (means.norm below)) npos
          (losses (val p.hi) (val p.lo) (val y.hi) (val y.lo) (val r.hi * val r.hi) (val r.lo * val r.lo)
          ((2 ^ 30) ^ 2) ((2 ^ 30 + 1) ^ 2) (2 ^ 30) (2 ^ 30 + 1) means.hi_loss means.lo_loss factor.near)
          held.near;
    }
  where
    positive : {m : Num} → Norm m → 0 < val m * (2 ^ 30 + 1) ^ 5
    positive h = mul-pos (omega (arith, val_low h)) (lit≤ tt)

-- ── Every digit ─────────────────────────────────────────────────────────────────────────────

-- The digits make the number.
parts : (d : ℕ) → lowest d + 2 * higher d ≡ d
parts d = omega arith

digit_small : (d : ℕ) → lowest d < 2
digit_small d = omega arith

pub lowest_factor : (x : Pair) (d : ℕ) → Ready x → Factor x (lowest d) (digit_factor x (lowest d))
lowest_factor x d = factor_is x (lowest d) (digit_small d)

-- All digits of `rest` besides those that p holds.
raise_held : (x p : Pair) (rest left d n : ℕ) → Ready x → 0 < n → rest < 2 ^ left → Held x d n p → Held x (d + n * rest) (n * 2 ^ left) (raise_of x p rest left)
unfolding raise_of
raise_held x p rest zero d n ready pos h held =
    let none : rest ≡ 0 = omega arith in
    let same : d + n * 0 ≡ d = omega arith in
    let once : n * 2 ^ 0 ≡ n = omega arith in
    rw (none, same, once) held
raise_held x p rest (suc left) d n ready pos h held =
    let factor = lowest_factor x rest ready in
    let next = one_held d n (lowest rest) pos factor (means_are held.norm factor.norm) held in
    let all : d + lowest rest * n + n * 2 * higher rest ≡ d + n * rest = omega (arith, ap (λ (z : ℕ). n * z) (parts rest)) in
    let turns : n * 2 * 2 ^ left ≡ n * 2 ^ suc left = rw (pow-suc 2 left) (omega arith) in
    rw (all, turns) at (raise_held x (means_of p (digit_factor x (lowest rest))) (higher rest) left (d + lowest rest * n) (n * 2) ready (omega arith) (omega arith) next)

-- One digit, and none.
pub raise_next : (x p : Pair) (rest i : ℕ) → i < digits → raise_of x (means_of p (digit_factor x (lowest rest))) (higher rest) (digits - (i + 1)) ≡ raise_of x p rest (digits - i)
unfolding raise_of
raise_next x p rest i more = let e : digits - i ≡ suc (digits - (i + 1)) = omega arith in rw e

pub raise_end : (x p : Pair) (rest i : ℕ) → digits ≤ i → p ≡ raise_of x p rest (digits - i)
unfolding raise_of
raise_end x p rest i none = let e : digits - i ≡ 0 = omega arith in rw e

pub raised : (x : Pair) (d : ℕ) → Ready x → d < 2 ^ digits → Held x d (2 ^ digits) (raise_of x (unraised x) d digits)
raised x d ready h =
    let all : 0 + 1 * d ≡ d = omega arith in
    rw all at (raise_held x (unraised x) d digits 0 1 ready (lit≤ tt) h (none_held x ready))

-- After all digits.
pub roots_near : (hi lo : ℕ) → unit ≤ lo → Close ((2 ^ 30) ^ 5) ((2 ^ 30 + 1) ^ 5) hi lo (2 ^ digits) → hi * 2 ^ 27 ≤ lo * (2 ^ 27 + 1)
roots_near hi lo low near =
    close_end ((2 ^ 30) ^ 5) ((2 ^ 30 + 1) ^ 5) hi lo (2 ^ 29) (2 ^ (digits - 29)) (2 ^ digits) (2 ^ 27) (2 ^ 27 + 1) (lit≤ tt) (lit≤ tt) refl (lit≤ tt) (lit≤ tt)
    (mul-pos (omega arith) (lit≤ tt)) (lit≤ tt) near

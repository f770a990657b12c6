-- Powers of 2 with a fraction for exponent, against fractions, in whole numbers; each law once for each side, over variables.
-- Assumes nothing.
use mathlib.Core.Path.{◌≡◌, sym, ap}
use Prim.Native.Nat.{ℕ, zero, suc, ◌+◌, ◌*◌, ◌^◌, ◌≤◌, ◌<◌}
use native.Mathlib.Nat.{le_refl, le_trans, le_of_eq, mul-le-mul, mul-le-mul_right, mul-mul-mul_comm, mul_comm, mul-one, one-mul, mul-pos, le_of_mul-le-mul_left, le_of_mul-le-mul_right, lt_of_le_of_lt, mul-lt-mul_of_pos_right, pow-le-pow_left, pow-zero, one-le-pow}
use native.Mathlib.Omega.{arith}
use lib.Pow.{pow-add, pow_mono, pow-lt, pow_pos}
use Rattle.formula.proofs.Wholes.{mul_pow, pow_mul, root_le, root_lt, one_pow}

-- In whole numbers: kept shut, since open, at numerals, they have numbers of milliards of digits.
unfoldable pub Most : (t u e n : ℕ) → Type 0
Most t u e n = t ^ n ≤ 2 ^ e * u ^ n

unfoldable pub Least : (t u e n : ℕ) → Type 0
Least t u e n = 2 ^ e * u ^ n ≤ t ^ n

-- t/u is at most 2^(e/n).
pub record AtMost (t u e n : ℕ) : Type 0 where
  pub shut : Most t u e n

-- t/u is at least 2^(e/n).
pub record AtLeast (t u e n : ℕ) : Type 0 where
  pub shut : Least t u e n

pub most_is : (t u e n : ℕ) → t ^ n ≤ 2 ^ e * u ^ n → AtMost t u e n
unfolding Most
most_is t u e n h = record { shut = h }

pub least_is : (t u e n : ℕ) → 2 ^ e * u ^ n ≤ t ^ n → AtLeast t u e n
unfolding Least
least_is t u e n h = record { shut = h }

-- The power 0, and whole powers.
pub most_none : (u n : ℕ) → AtMost u u 0 n
most_none u n = most_is u u 0 n (rw (pow-zero 2, one-mul (u ^ n)) (le_refl (u ^ n)))

pub least_none : (u n : ℕ) → AtLeast u u 0 n
least_none u n = least_is u u 0 n (rw (pow-zero 2, one-mul (u ^ n)) (le_refl (u ^ n)))

whole_is : (k n : ℕ) → (2 ^ k) ^ n ≡ 2 ^ (k * n) * 1 ^ n
whole_is k n = rw (pow_mul 2 k n, one_pow n, mul-one (2 ^ (k * n)))

pub most_whole : (k n : ℕ) → AtMost (2 ^ k) 1 (k * n) n
most_whole k n = most_is (2 ^ k) 1 (k * n) n (le_of_eq (whole_is k n))

pub least_whole : (k n : ℕ) → AtLeast (2 ^ k) 1 (k * n) n
least_whole k n = least_is (2 ^ k) 1 (k * n) n (le_of_eq (sym (whole_is k n)))

-- The powers multiply as their exponents add.
product_is : (e e' u u' n : ℕ) → 2 ^ e * u ^ n * (2 ^ e' * u' ^ n) ≡ 2 ^ (e + e') * (u * u') ^ n
product_is e e' u u' n = rw (pow-add 2 e e', mul_pow u u' n) (mul-mul-mul_comm (2 ^ e) (u ^ n) (2 ^ e') (u' ^ n))

pub most_mul : {t u e t' u' e' n : ℕ} → AtMost t u e n → AtMost t' u' e' n → AtMost (t * t') (u * u') (e + e') n
unfolding Most
most_mul {t} {u} {e} {t'} {u'} {e'} {n} h k = most_is (t * t') (u * u') (e + e') n (rw (mul_pow t t' n) (le_trans (mul-le-mul h.shut k.shut) (le_of_eq (product_is e e' u u' n))))

pub least_mul : {t u e t' u' e' n : ℕ} → AtLeast t u e n → AtLeast t' u' e' n → AtLeast (t * t') (u * u') (e + e') n
unfolding Least
least_mul {t} {u} {e} {t'} {u'} {e'} {n} h k = least_is (t * t') (u * u') (e + e') n (rw (mul_pow t t' n) (le_trans (le_of_eq (sym (product_is e e' u u' n))) (mul-le-mul h.shut k.shut)))

-- A smaller fraction is at most the power too, and a larger one at least.
pub most_down : {t u v w e n : ℕ} → 0 < u → v * u ≤ t * w → AtMost t u e n → AtMost v w e n
unfolding Most
most_down {t} {u} {v} {w} {e} {n} pos out h =
    let a : v ^ n * u ^ n ≤ t ^ n * w ^ n = rw (← mul_pow v u n, ← mul_pow t w n) (pow-le-pow_left out n) in
    let b : t ^ n * w ^ n ≤ 2 ^ e * u ^ n * w ^ n = mul-le-mul_right (w ^ n) h.shut in
    most_is v w e n (le_of_mul-le-mul_right {k = u ^ n} (omega arith) (one-le-pow n u pos))

pub LeastUp : {t u v w e n : ℕ} → 0 < u → t * w ≤ v * u → AtLeast t u e n → AtLeast v w e n
unfolding Least
LeastUp {t} {u} {v} {w} {e} {n} pos out h =
    let a : t ^ n * w ^ n ≤ v ^ n * u ^ n = rw (← mul_pow v u n, ← mul_pow t w n) (pow-le-pow_left out n) in
    let b : 2 ^ e * u ^ n * w ^ n ≤ t ^ n * w ^ n = mul-le-mul_right (w ^ n) h.shut in
    least_is v w e n (le_of_mul-le-mul_right {k = u ^ n} (omega arith) (one-le-pow n u pos))

-- The same exponent in finer parts.
finer_is : (e u n h : ℕ) → (2 ^ e * u ^ n) ^ h ≡ 2 ^ (e * h) * u ^ (n * h)
finer_is e u n h = rw (mul_pow (2 ^ e) (u ^ n) h, pow_mul 2 e h, pow_mul u n h)

most_raised : {t u e n : ℕ} (h : ℕ) → AtMost t u e n → t ^ (n * h) ≤ 2 ^ (e * h) * u ^ (n * h)
unfolding Most
most_raised {t} {u} {e} {n} h k = rw (← pow_mul t n h, ← finer_is e u n h) (pow-le-pow_left k.shut h)

least_raised : {t u e n : ℕ} (h : ℕ) → AtLeast t u e n → 2 ^ (e * h) * u ^ (n * h) ≤ t ^ (n * h)
unfolding Least
least_raised {t} {u} {e} {n} h k = rw (← pow_mul t n h, ← finer_is e u n h) (pow-le-pow_left k.shut h)

pub most_finer : {t u e n : ℕ} (h : ℕ) → AtMost t u e n → AtMost t u (e * h) (n * h)
most_finer {t} {u} {e} {n} h k = most_is t u (e * h) (n * h) (most_raised h k)

pub least_finer : {t u e n : ℕ} (h : ℕ) → AtLeast t u e n → AtLeast t u (e * h) (n * h)
least_finer {t} {u} {e} {n} h k = least_is t u (e * h) (n * h) (least_raised h k)

-- Along a straight line: from one part of the exponent to g of them, 1 + c/z to 1 + g c/z, and 1 / (1 - c/z) to 1 / (1 - g c/z).
pub most_line : {z n : ℕ} (c g : ℕ) → 0 < z → AtMost (z + c) z 1 n → AtMost (z + g * c) z g n
most_line {z} {n} c zero pos h = most_down pos (omega arith) (most_none z n)
most_line {z} {n} c (suc g) pos h =
    let e : suc g ≡ g + 1 = omega arith in
    rw e (most_down {t = (z + g * c) * (z + c)} {u = z * z} (mul-pos pos pos) (omega arith) (most_mul (most_line c g pos h) h))

pub least_line : {z d n : ℕ} (c g y : ℕ) → 0 < d → d + c ≡ z → 0 < y → y + g * c ≡ z → AtLeast z d 1 n → AtLeast z y g n
least_line {z} {d} {n} c zero y dpos one ypos e h = LeastUp (omega arith) (omega (arith, ap (λ (k : ℕ). k * z) e)) (least_none z n)
least_line {z} {d} {n} c (suc g) y dpos one ypos e h =
    let s : suc g ≡ g + 1 = omega arith in
    let more : 0 < y + c = omega arith in
    let before : AtLeast z (y + c) g n = least_line c g (y + c) dpos one more (omega arith) h in
    let narrow : z * y ≤ (y + c) * d = omega (arith, ap (λ (k : ℕ). (y + c) * k) one, ap (λ (k : ℕ). k * c) e) in
    rw s (LeastUp {t = z * z} {u = (y + c) * d} (mul-pos more dpos) (omega (arith, mul-le-mul_right z narrow)) (least_mul before h))

-- What is at most 2^(e/n) of s, for an e below n, is less than 2 s.
pub most_small : {t s e n : ℕ} → 0 < s → e < n → AtMost t s e n → t < 2 * s
unfolding Most
most_small {t} {s} {e} {n} pos less h =
    root_lt t (2 * s) n (rw (mul_pow 2 s n) (lt_of_le_of_lt h.shut (mul-lt-mul_of_pos_right (pow-lt less) (one-le-pow n s pos))))

-- A number m that takes 2^(c/n) to 2^k s, or more, is at least 2^(l/n) s where c and l are at most k; and the other way round.
turned : (k l c s n : ℕ) → 2 ^ c * (2 ^ l * s ^ n) ≡ 2 ^ (c + l) * s ^ n
turned k l c s n = rw (pow-add 2 c l) (omega arith)

pub turn_least : {m c n : ℕ} (k l s : ℕ) → c + l ≤ k * n → AtMost (2 ^ k * s) m c n → AtLeast m s l n
unfolding Most
turn_least {m} {c} {n} k l s h g =
    let a : 2 ^ (k * n) * s ^ n ≤ 2 ^ c * m ^ n = rw (← pow_mul 2 k n, ← mul_pow (2 ^ k) s n) g.shut in
    let b : 2 ^ c * (2 ^ l * s ^ n) ≤ 2 ^ c * m ^ n = le_trans (le_of_eq (turned k l c s n)) (le_trans (mul-le-mul_right (s ^ n) (pow_mono h)) a) in
    least_is m s l n (le_of_mul-le-mul_left {k = 2 ^ c} b (pow_pos c))

pub turn_most : {m c n : ℕ} (k l s : ℕ) → k * n ≤ c + l → AtLeast (2 ^ k * s) m c n → AtMost m s l n
unfolding Least
turn_most {m} {c} {n} k l s h g =
    let a : 2 ^ c * m ^ n ≤ 2 ^ (k * n) * s ^ n = rw (← pow_mul 2 k n, ← mul_pow (2 ^ k) s n) g.shut in
    let b : 2 ^ c * m ^ n ≤ 2 ^ c * (2 ^ l * s ^ n) = le_trans a (le_trans (mul-le-mul_right (s ^ n) (pow_mono h)) (le_of_eq (sym (turned k l c s n)))) in
    most_is m s l n (le_of_mul-le-mul_left {k = 2 ^ c} b (pow_pos c))

-- From powers of 2 to the power of a fraction a/b whose logarithm lies on the other side.
all_parts : (x y p q n : ℕ) → (x ^ q * y ^ p) ^ n ≡ x ^ (n * q) * y ^ (n * p)
all_parts x y p q n = rw (mul_pow (x ^ q) (y ^ p) n, pow_mul x q n, pow_mul y p n, mul_comm q n, mul_comm p n)

pub below_power : {t u e n a b l : ℕ} (p q : ℕ) → 0 < n → e * q ≤ l * p → AtMost t u e n → AtLeast a b l n → t ^ q * b ^ p ≤ a ^ p * u ^ q
below_power {t} {u} {e} {n} {a} {b} {l} p q pos part h k =
    let T = t ^ (n * q) in
    let B = b ^ (n * p) in
    let A = a ^ (n * p) in
    let U = u ^ (n * q) in
    let x : T * B ≤ 2 ^ (e * q) * U * B = mul-le-mul_right B (most_raised q h) in
    let y : 2 ^ (l * p) * B * U ≤ A * U = mul-le-mul_right U (least_raised p k) in
    let z : 2 ^ (e * q) * (U * B) ≤ 2 ^ (l * p) * (U * B) = mul-le-mul_right (U * B) (pow_mono part) in
    root_le _ _ n pos (rw (all_parts t b p q n, all_parts a u q p n) (omega arith))

pub above_power : {t u e n a b l : ℕ} (p q : ℕ) → 0 < n → l * p ≤ e * q → AtLeast t u e n → AtMost a b l n → a ^ p * u ^ q ≤ t ^ q * b ^ p
above_power {t} {u} {e} {n} {a} {b} {l} p q pos part h k =
    let T = t ^ (n * q) in
    let B = b ^ (n * p) in
    let A = a ^ (n * p) in
    let U = u ^ (n * q) in
    let x : 2 ^ (e * q) * U * B ≤ T * B = mul-le-mul_right B (least_raised q h) in
    let y : A * U ≤ 2 ^ (l * p) * B * U = mul-le-mul_right U (most_raised p k) in
    let z : 2 ^ (l * p) * (U * B) ≤ 2 ^ (e * q) * (U * B) = mul-le-mul_right (U * B) (pow_mono part) in
    root_le _ _ n pos (rw (all_parts t b p q n, all_parts a u q p n) (omega arith))

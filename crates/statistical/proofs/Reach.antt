-- How slow and how fast method 4 can be: E^(F/3) against B^C, and so the speed against 1.91 knots and against 220. Assumes nothing.
use mathlib.Core.Path.{◌≡◌, sym}
use Prim.Native.Nat.{ℕ, ◌+◌, ◌*◌, ◌^◌, ◌≤◌, ◌<◌}
use native.Mathlib.Nat.{le_trans, le_of_eq, le_dest, mul-pos, mul-one, mul-le-mul, mul-le-mul_left, mul-le-mul_right, one-le-pow, pow-le-pow_left, pow-le-pow_right, le_of_mul-le-mul_right, zero-lt-suc}
use native.Mathlib.Omega.{arith}
use lib.Dec.{lit<}
use lib.Pow.{pow-add}
use Rattle.formula.specs.Formula.{below, above}
use Rattle.formula.proofs.Wholes.{mul_pow, pow_mul, pow_swap, one_pow, root_le}
use Rattle.formula.proofs.Powers.{whole_below, whole_above}
use Rattle.power.specs.Power.{BoundsPower}
use Rattle.power.proofs.Laws.{in_words}

-- A whole base: what lies below x^(p/q) and what lies above it, in whole numbers.
at_most : (t u x p q : ℕ) → 0 < u → 0 < q → BoundsPower below t u x 1 p q → t ^ q ≤ x ^ p * u ^ q
at_most t u x p q upos qpos h =
    le_trans (le_of_eq (sym (mul-one (t ^ q)))) (rw (one_pow p) at (whole_below t x p upos (zero-lt-suc 0) qpos (in_words t u x 1 p q h)))

at_least : (t u x p q : ℕ) → 0 < u → 0 < q → BoundsPower above t u x 1 p q → x ^ p * u ^ q ≤ t ^ q
at_least t u x p q upos qpos h =
    le_trans (rw (one_pow p) at (whole_above t x p upos (zero-lt-suc 0) qpos (in_words t u x 1 p q h))) (le_of_eq (mul-one (t ^ q)))

-- E^(3x + y) against B^(3x) T^y, where (E/B)^3 E is at most T.
cut : (E B T x y : ℕ) → E ≤ T → E ^ 3 * E ≤ B ^ 3 * T → x ≤ y → E ^ (3 * x + y) ≤ B ^ (3 * x) * T ^ y
cut E B T x y top near h =
    let z : ℕ = (le_dest h).0 in
    let e : x + z ≡ y = (le_dest h).1 in
    let four : E ^ (3 * x) * E ^ x ≤ B ^ (3 * x) * T ^ x = rw (mul_pow (E ^ 3) E x, pow_mul E 3 x, mul_pow (B ^ 3) T x, pow_mul B 3 x) at (pow-le-pow_left near x) in
    rw (← e, pow-add E (3 * x) (x + z), pow-add E x z, pow-add T x z) (omega (arith, mul-le-mul four (pow-le-pow_left top z)))

-- E^F against B^(3C), where F - 3C is at most a n / b.
grown : (E F B C n T a b c : ℕ) → 1 ≤ E → 0 < b → E ≤ T → E ^ 3 * E ≤ B ^ 3 * T → C * b ≤ a * n → F * b ≤ C * 3 * b + a * n → T ^ a ≤ c ^ b → E ^ F ≤ B ^ (C * 3) * c ^ n
grown E F B C n T a b c epos bpos top near small f big =
    let thrice : C * 3 * b ≡ 3 * (C * b) = omega arith in
    let x : E ^ (F * b) ≤ E ^ (3 * (C * b) + a * n) = pow-le-pow_right {n = E} epos (omega arith) in
    let y : T ^ (a * n) ≤ (c ^ b) ^ n = rw (pow_mul T a n) at (pow-le-pow_left big n) in
    root_le (E ^ F) (B ^ (C * 3) * c ^ n) b bpos
    (rw (pow_mul E F b, mul_pow (B ^ (C * 3)) (c ^ n) b, pow_mul B (C * 3) b, pow_swap c n b, thrice)
    (le_trans x (le_trans (cut E B T (C * b) (a * n) top near small) (mul-le-mul_left (B ^ (3 * (C * b))) y))))

-- So a bound below E^(F/3) is at most c times one above B^C.
pub spread : (w u E F x k B C q T a b c : ℕ) → 0 < u → 0 < k → 0 < q → 1 ≤ E → 0 < b → E ≤ T → E ^ 3 * E ≤ B ^ 3 * T
    → C * b ≤ a * (q * 3) → F * b ≤ C * 3 * b + a * (q * 3) → T ^ a ≤ c ^ b
    → BoundsPower below w u E 1 F (q * 3) → BoundsPower above x k B 1 C q → w * k ≤ u * x * c
spread w u E F x k B C q T a b c upos kpos qpos epos bpos top near small f big lo hi =
    let n : ℕ = q * 3 in
    let g : E ^ F ≤ B ^ (C * 3) * c ^ n = grown E F B C n T a b c epos bpos top near small f big in
    let l : w ^ n ≤ E ^ F * u ^ n = at_most w u E F n upos (omega arith) lo in
    let t : (B ^ C * k ^ q) ^ 3 ≤ (x ^ q) ^ 3 = pow-le-pow_left (at_least x k B C q kpos qpos hi) 3 in
    let v : B ^ (C * 3) * k ^ n ≤ x ^ n = rw (mul_pow (B ^ C) (k ^ q) 3, pow_mul k q 3, pow_mul B C 3, pow_mul x q 3) at t in
    root_le (w * k) (u * x * c) n (omega arith)
    (rw (mul_pow w k n, mul_pow (u * x) c n, mul_pow u x n)
    (le_trans (mul-le-mul_right (k ^ n) l)
    (le_trans (mul-le-mul_right (k ^ n) (mul-le-mul_right (u ^ n) g)) (omega (arith, mul-le-mul_left (u ^ n * c ^ n) v)))))

-- And a bound above E^(F/3) is at least 3/2 of one below B^C, where E is at least B and 100.
pub apart : (w u E F x k B C q h : ℕ) → 0 < u → 0 < k → 0 < q → 100 ≤ E → B ≤ E → C * 3 + h ≤ F → q * 3 ≡ 10 * h
    → BoundsPower above w u E 1 F (q * 3) → BoundsPower below x k B 1 C q → x * u * 3 ≤ k * w * 2
apart w u E F x k B C q h upos kpos qpos epos be f e hi lo =
    let n : ℕ = q * 3 in
    let big : E ^ (C * 3) * E ^ h ≤ E ^ F = rw (pow-add E (C * 3) h) at (pow-le-pow_right {n = E} (omega arith) f) in
    let a : E ^ F * u ^ n ≤ w ^ n = at_least w u E F n upos (omega arith) hi in
    let l : (x ^ q) ^ 3 ≤ (B ^ C * k ^ q) ^ 3 = pow-le-pow_left (at_most x k B C q kpos qpos lo) 3 in
    let v : x ^ n ≤ B ^ (C * 3) * k ^ n = rw (mul_pow (B ^ C) (k ^ q) 3, pow_mul k q 3, pow_mul B C 3, pow_mul x q 3) at l in
    let b : B ^ (C * 3) ≤ E ^ (C * 3) = pow-le-pow_left be (C * 3) in
    let t : 3 ^ n ≤ E ^ h * 2 ^ n = rw (e, ← pow_mul 3 10 h, ← pow_mul 2 10 h, ← mul_pow E (2 ^ 10) h) (pow-le-pow_left (omega arith) h) in
    root_le (x * u * 3) (k * w * 2) n (omega arith)
    (rw (mul_pow (x * u) 3 n, mul_pow x u n, mul_pow (k * w) 2 n, mul_pow k w n)
    (le_trans (mul-le-mul_left (x ^ n * u ^ n) t)
    (le_trans (mul-le-mul_right (E ^ h * 2 ^ n) (mul-le-mul_right (u ^ n) (le_trans v (mul-le-mul_right (k ^ n) b))))
    (le_trans (le_of_eq (regroup (k ^ n) (E ^ (C * 3)) (u ^ n) (E ^ h) (2 ^ n)))
    (le_trans (mul-le-mul_left (k ^ n * 2 ^ n) (le_trans (mul-le-mul_right (u ^ n) big) a)) (le_of_eq (turned (k ^ n) (2 ^ n) (w ^ n))))))))
  where
    regroup : (a b c d e : ℕ) → b * a * c * (d * e) ≡ a * e * (b * d * c)
    regroup a b c d e = omega arith

    turned : (a b c : ℕ) → a * b * c ≡ a * c * b
    turned a b c = omega arith

-- ── The speed ───────────────────────────────────────────────────────────────────────────────

-- At least 1.91 knots: w A 10^5 is at most c S v', and b' at least 0.95 v'.
pub slowest : (hi w A D S v' b' p c : ℕ) → 0 < w → 0 < D → 0 < c → 7500 ≤ p → w * (A * 100000) ≤ S * v' * c → 95 * v' ≤ 100 * b' → (382000 * c) ^ 3 * D ≤ (19 * A) ^ 3 * 1000000
    → (b' * S) ^ 3 * (p * 400) ≤ (hi * 1000 * w) ^ 3 * (3 * D) → 1910000 ≤ hi
slowest hi w A D S v' b' p c wpos dpos cpos pl h g strong root =
    let x : w * (5000 * (19 * A)) ≤ b' * S * c = omega (arith, mul-le-mul_right (S * c) g) in
    let y : w ^ 3 * (5000 ^ 3 * (19 * A) ^ 3) ≤ (b' * S) ^ 3 * c ^ 3 = rw (mul_pow w (5000 * (19 * A)) 3, mul_pow 5000 (19 * A) 3, mul_pow (b' * S) c 3) at (pow-le-pow_left x 3) in
    let z : (b' * S) ^ 3 * 3000000 ≤ (b' * S) ^ 3 * (p * 400) = mul-le-mul_left ((b' * S) ^ 3) (omega arith) in
    let u : (hi * 1000 * w) ^ 3 * (3 * D) ≡ (hi * 1000) ^ 3 * w ^ 3 * (3 * D) = rw (mul_pow (hi * 1000) w 3) in
    let t : (b' * S) ^ 3 * 3000000 * c ^ 3 ≤ (hi * 1000) ^ 3 * w ^ 3 * (3 * D) * c ^ 3 = mul-le-mul_right (c ^ 3) (rw u at (le_trans z root)) in
    let s : 382000 ^ 3 * c ^ 3 * D * w ^ 3 ≤ (19 * A) ^ 3 * 1000000 * w ^ 3 = rw (mul_pow 382000 c 3) at (mul-le-mul_right (w ^ 3) strong) in
    let r : 1910000000 ^ 3 ≤ (hi * 1000) ^ 3 = le_of_mul-le-mul_right {k = w ^ 3 * c ^ 3 * D} (omega (arith, y, t, s)) (mul-pos (mul-pos (one-le-pow 3 w wpos) (one-le-pow 3 c cpos)) dpos) in
    omega (arith, root_le 1910000000 (hi * 1000) 3 (lit< tt) r)

-- At most 220 knots: 3 v S is at most 2 A 10^5 w', and b at most v.
pub fastest : (lo w A D S v b p : ℕ) → 0 < w → 0 < D → p ≤ 36000000 → v * S * 3 ≤ A * 100000 * w * 2 → b ≤ v → (200 * A) ^ 3 * 14400000000 ≤ 660000000 ^ 3 * (3 * D)
    → (lo * 1000 * w) ^ 3 * (3 * D) ≤ (b * S) ^ 3 * (p * 400) → lo ≤ 220000000
fastest lo w A D S v b p wpos dpos ph h g weak root =
    let x : b * S * 3 ≤ 1000 * (200 * A) * w = omega (arith, mul-le-mul_right S g) in
    let y : (b * S) ^ 3 * 27 ≤ 1000 ^ 3 * (200 * A) ^ 3 * w ^ 3 = rw (mul_pow (b * S) 3 3, mul_pow (1000 * (200 * A)) w 3, mul_pow 1000 (200 * A) 3) at (pow-le-pow_left x 3) in
    let z : (b * S) ^ 3 * (p * 400) ≤ (b * S) ^ 3 * 14400000000 = mul-le-mul_left ((b * S) ^ 3) (omega arith) in
    let u : (lo * 1000 * w) ^ 3 * (3 * D) ≡ lo ^ 3 * 1000 ^ 3 * w ^ 3 * (3 * D) = rw (mul_pow (lo * 1000) w 3, mul_pow lo 1000 3) in
    let s : (200 * A) ^ 3 * 14400000000 * w ^ 3 ≤ 660000000 ^ 3 * (3 * D) * w ^ 3 = mul-le-mul_right (w ^ 3) weak in
    let c : lo ^ 3 * 27 ≤ 660000000 ^ 3 = le_of_mul-le-mul_right {k = w ^ 3 * D} (omega arith) (mul-pos (one-le-pow 3 w wpos) dpos) in
    omega (arith, root_le (lo * 3) 660000000 3 (lit< tt) (rw (mul_pow lo 3 3) c))

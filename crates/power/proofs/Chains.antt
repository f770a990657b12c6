-- Repeated squaring: each square, rounded, is a step from one power of 2 to its square. Assumes nothing.
use mathlib.Core.Path.{◌≡◌}
use Prim.Native.Nat.{ℕ, zero, suc, ◌+◌, ◌-◌, ◌*◌, ◌/◌, ◌^◌, ◌≤◌, ◌<◌}
use native.Mathlib.Nat.{le_refl, mul-le-mul_right, le_of_mul-le-mul_right, pow-le-pow_left, pow-suc, div-mul-le_self, lt-div-mul-add}
use native.Mathlib.Omega.{arith}
use lib.Pow.{pow-add}
use Rattle.formula.proofs.Wholes.{mul_pow, pow_one, square}
use Rattle.power.proofs.Twos.{AtMost, AtLeast, most_is, least_is}

-- ── One square ──────────────────────────────────────────────────────────────────────────────

twice : (x k : ℕ) → x ^ 2 ^ suc k ≡ x ^ 2 ^ k * x ^ 2 ^ k
twice x k = let e : 2 ^ k * 2 ≡ 2 ^ k + 2 ^ k = omega arith in rw (pow-suc 2 k, e, pow-add x (2 ^ k) (2 ^ k))

chain_below : (x x' z r c k : ℕ) → x' * z ≤ x * x → r * z ^ 2 ^ k ≤ x' ^ 2 ^ k * c → r * z ^ 2 ^ suc k ≤ x ^ 2 ^ suc k * c
chain_below x x' z r c k step h =
    let n = 2 ^ k in
    let s : x' ^ n * z ^ n ≤ x ^ n * x ^ n = rw (← mul_pow x' z n, ← mul_pow x x n) (pow-le-pow_left step n) in
    let a : r * z ^ n * z ^ n ≤ x' ^ n * c * z ^ n = mul-le-mul_right (z ^ n) h in
    let b : x' ^ n * z ^ n * c ≤ x ^ n * x ^ n * c = mul-le-mul_right c s in
    rw (twice z k, twice x k) (omega arith)

chain_above : (x x' z r c k : ℕ) → x * x ≤ x' * z → x' ^ 2 ^ k * c ≤ r * z ^ 2 ^ k → x ^ 2 ^ suc k * c ≤ r * z ^ 2 ^ suc k
chain_above x x' z r c k step h =
    let n = 2 ^ k in
    let s : x ^ n * x ^ n ≤ x' ^ n * z ^ n = rw (← mul_pow x' z n, ← mul_pow x x n) (pow-le-pow_left step n) in
    let a : x' ^ n * c * z ^ n ≤ r * z ^ n * z ^ n = mul-le-mul_right (z ^ n) h in
    let b : x ^ n * x ^ n * c ≤ x' ^ n * z ^ n * c = mul-le-mul_right c s in
    rw (twice z k, twice x k) (omega arith)

-- ── Squares that are computed, for the numbers of a table ───────────────────────────────────

-- u/z, squared k times, in units of 1/z: each square rounded up, and down.
unfoldable pub squared_up : (z k u : ℕ) → ℕ
squared_up z zero u = u
squared_up z (suc k) u = squared_up z k ((u ^ 2 + (z - 1)) / z)

unfoldable pub squared_down : (z k u : ℕ) → ℕ
squared_down z zero u = u
squared_down z (suc k) u = squared_down z k (u ^ 2 / z)

up_law : (z k u : ℕ) → 0 < z → u ^ 2 ^ k * z ≤ squared_up z k u * z ^ 2 ^ k
unfolding squared_up
up_law z zero u pos = rw (pow_one u, pow_one z) (le_refl (u * z))
up_law z (suc k) u pos =
    let s : u * u ≤ (u ^ 2 + (z - 1)) / z * z = rw (square u) (omega (arith, lt-div-mul-add {a = u * u + (z - 1)} pos)) in
    chain_above u ((u ^ 2 + (z - 1)) / z) z _ z k s (up_law z k ((u ^ 2 + (z - 1)) / z) pos)

down_law : (z k u : ℕ) → squared_down z k u * z ^ 2 ^ k ≤ u ^ 2 ^ k * z
unfolding squared_down
down_law z zero u = rw (pow_one u, pow_one z) (le_refl (u * z))
down_law z (suc k) u =
    let s : u ^ 2 / z * z ≤ u * u = rw (square u) (div-mul-le_self (u * u) z) in
    chain_below u (u ^ 2 / z) z _ z k s (down_law z k (u ^ 2 / z))

pub up_most : (z k u e : ℕ) → 0 < z → squared_up z k u ≤ 2 ^ e * z → AtMost u z e (2 ^ k)
up_most z k u e pos h =
    let n = 2 ^ k in
    let a : squared_up z k u * z ^ n ≤ 2 ^ e * z * z ^ n = mul-le-mul_right (z ^ n) h in
    most_is u z e n (le_of_mul-le-mul_right {k = z} (omega (arith, up_law z k u pos)) pos)

pub down_least : (z k u e : ℕ) → 0 < z → 2 ^ e * z ≤ squared_down z k u → AtLeast u z e (2 ^ k)
down_least z k u e pos h =
    let n = 2 ^ k in
    let a : 2 ^ e * z * z ^ n ≤ squared_down z k u * z ^ n = mul-le-mul_right (z ^ n) h in
    least_is u z e n (le_of_mul-le-mul_right {k = z} (omega (arith, down_law z k u)) pos)

-- The start that the table gives: how often n is divided by 8, and that it is not below the root. Assumes nothing.
use mathlib.Core.Path.{◌≡◌, sym, ap, ◌∙◌}
use Prim.Native.Nat.{ℕ, ◌+◌, ◌-◌, ◌*◌, ◌/◌, ◌%◌, ◌^◌, ◌≤◌, ◌<◌, min}
use native.Mathlib.Nat.{le_trans, le_of_lt, lt_of_lt_of_le, lt_of_not-le, not-le_of_lt, mul-le-mul_right, lt-div-mul-add, min-eq_left, min-eq_right, div-lt_iff_lt-mul, pow-le-pow_left}
use native.Mathlib.Omega.{arith}
use native.Mathlib.Decide.{dec_le}
use lib.Dec.{lit≤}
use lib.Pow.{pow-add, pow_mono, pow_pos, shl_exact}
use Rattle.formula.proofs.Wholes.{mul_pow, pow_mul, pow_swap}
use Rattle.root.specs.Root.{Root, root_of}
use Rattle.root.proofs.Roots.{root_of_is, root_named, root_below}
use Rattle.quick_root.specs.Start.{Eighths, start_of, Start}

-- ── How often n is divided ──────────────────────────────────────────────────────────────────

-- 1,024 times so many eights is a power of 2.
eights : (k : ℕ) → 1024 * 8 ^ k ≡ 2 ^ (10 + 3 * k)
eights k = ap (λ (z : ℕ). 1024 * z) (pow_mul 2 3 k) ∙ sym (pow-add 2 10 (3 * k))

some_eights : (k : ℕ) → 0 < 8 ^ k
some_eights k = rw (pow_mul 2 3 k) (pow_pos (3 * k))

-- n has m binary digits, and z zeros stand before them in a word of 64.
pub counted : {n : ℕ} (z m : ℕ) → z + m ≡ 64 → n < 2 ^ m → 2 ^ m ≤ 2 * n + 1 → Eighths n ((56 - z) / 3)
counted {n} z m sum under from = go ((56 - z) / 3) (omega arith) (omega arith)
  where
    go : (k : ℕ) → m ≤ 10 + 3 * k → 3 * k ≤ m - 8 → Eighths n k
    go k wide narrow =
        record {
          enough = rw (eights k) (lt_of_lt_of_le under (pow_mono wide));
          fewest = λ j below.
              let double : 2 ^ (1 + (10 + 3 * j)) ≡ 2 * 2 ^ (10 + 3 * j) = pow-add 2 1 (10 + 3 * j) in
              let small : n < 2 ^ (10 + 3 * j) = rw (eights j) at below in
              let less : m < 1 + (10 + 3 * j) = lt_of_not-le (λ le. not-le_of_lt (omega arith) (le_trans (pow_mono le) from)) in
              omega arith;
        }

-- ── The entry ───────────────────────────────────────────────────────────────────────────────

pub times_few : {n k : ℕ} → n < 2 ^ 64 → Eighths n k → k ≤ 18
times_few fits divided = divided.fewest 18 (lt_of_lt_of_le fits (lit≤ tt))

-- Moved down by three binary digits a time.
moved_down : (n k : ℕ) → n / 2 ^ (3 * k) ≡ n / 8 ^ k
moved_down n k = ap (λ (z : ℕ). n / z) (sym (pow_mul 2 3 k))

pub entry_number : {n k : ℕ} → Eighths n k → n / 2 ^ (3 * k) + 1 ≤ 1024
entry_number {n} {k} divided =
    let below : n / 8 ^ k < 1024 = (div-lt_iff_lt-mul {k = 8 ^ k} {x = n} {y = 1024} (some_eights k)).1 divided.enough in
    rw (moved_down n k) (omega arith)

-- An entry has 14 bits at most, and moved up so often it still fits a word.
pub entry_small : {i t : ℕ} → Root 3 (i * 2 ^ 30) t → i ≤ 1024 → t < 2 ^ 14
entry_small root h = root_below 3 (2 ^ 14) (2 ^ 40 + 1) (lit≤ tt) (omega arith) root.at_most

moved_up : {t k : ℕ} → t < 2 ^ 14 → k ≤ 18 → (t + 1) * 2 ^ k % 2 ^ 64 ≡ (t + 1) * 2 ^ k
moved_up {t} {k} small few = shl_exact {a = t + 1} 15 k 64 (omega arith) (omega arith)

-- ── Not below the root ──────────────────────────────────────────────────────────────────────

-- With s for 2^k and t for the entry: n is below (m + 1) s^3, and that is below ((t + 1) s / 1024)^3.
above : (n m s t x : ℕ) → n < (m + 1) * s ^ 3 → (m + 1) * 2 ^ 30 < (t + 1) ^ 3 → (t + 1) * s < 1024 * (x + 1) → n < (x + 1) ^ 3
above n m s t x below rule near =
    let table : (m + 1) * 2 ^ 30 * s ^ 3 ≤ (t + 1) ^ 3 * s ^ 3 = mul-le-mul_right (s ^ 3) (le_of_lt rule) in
    let cubes : ((t + 1) * s) ^ 3 ≤ (1024 * (x + 1)) ^ 3 = pow-le-pow_left (le_of_lt near) 3 in
    let left : ((t + 1) * s) ^ 3 ≡ (t + 1) ^ 3 * s ^ 3 = mul_pow (t + 1) s 3 in
    let right : (1024 * (x + 1)) ^ 3 ≡ 2 ^ 30 * (x + 1) ^ 3 = mul_pow 1024 (x + 1) 3 in
    omega arith

uncapped : (n k t : ℕ) → Root 3 ((n / 8 ^ k + 1) * 2 ^ 30) t → n < ((t + 1) * 2 ^ k / 1024 + 1) ^ 3
uncapped n k t root =
    let below : n < (n / 8 ^ k + 1) * 8 ^ k = omega (arith, lt-div-mul-add {a = n} (some_eights k)) in
    above n (n / 8 ^ k) (2 ^ k) t ((t + 1) * 2 ^ k / 1024) (rw (pow_swap 2 k 3) below) root.next_above (omega arith)

-- The largest root of 64 bits is above as well.
capped : (n x : ℕ) → n < 2 ^ 64 → n < (x + 1) ^ 3 → (n < (min x 2642245 + 1) ^ 3) × (min x 2642245 ≤ 2642245)
capped n x fits h =
    elim (dec_le x 2642245) [
      | yes i ↦ rw (min-eq_left i) (h, i)
      | no i ↦ rw (min-eq_right {n = 2642245} {m = x} (le_of_lt (lt_of_not-le i))) (lt_of_lt_of_le fits (lit≤ tt), lit≤ tt)
    ]

pub start_above : {n x : ℕ} → n < 2 ^ 64 → Start n x → (n < (x + 1) ^ 3) × (x ≤ 2642245)
unfolding start_of
start_above {n} {x} fits s =
    let k = s.times in
    rw s.is (capped n _ fits (uncapped n k (root_of 3 ((n / 8 ^ k + 1) * 2 ^ 30)) (root_of_is 3 _ (omega arith))))

-- ── As the code has it ──────────────────────────────────────────────────────────────────────

module _ {n k t : ℕ} (fits : n < 2 ^ 64) (divided : Eighths n k) (root : Root 3 ((n / 2 ^ (3 * k) + 1) * 2 ^ 30) t) where
  named : (t + 1) * 2 ^ k % 2 ^ 64 / 1024 ≡ (root_of 3 ((n / 8 ^ k + 1) * 2 ^ 30) + 1) * 2 ^ k / 1024
  named =
      let small = entry_small root (entry_number divided) in
      rw (moved_up small (times_few fits divided), root_named (omega arith) (rw (moved_down n k) at root))

  pub started : (y : ℕ) → y ≡ min ((t + 1) * 2 ^ k % 2 ^ 64 / 1024) 2642245 → Start n y
  unfolding start_of
  started y e = record { times = k; divided = divided; is = e ∙ ap (λ (x : ℕ). min x 2642245) named }

-- Tables: a rule proved at all places by one test that antt computes, and what the arms of a match leave. Assumes nothing.
use mathlib.Core.Path.{◌≡◌, subst}
use mathlib.Core.Bool.{Bool, true, false}
use Prim.Native.Nat.{ℕ, zero, suc, ◌≤◌, ◌<◌, zero-le}
use native.Mathlib.Nat.{le_of_suc-le-suc, not-suc-le-zero, le_antisymm, lt_of_not-le}
use native.Mathlib.Decide.{dec_le}
use lib.Dec.{T}

abbrev pub both : Bool → Bool → Bool
both true b = b
both false b = false

pub both_left : (a b : Bool) → T (both a b) → T a
both_left true b t = tt
both_left false b t = t

pub both_right : (a b : Bool) → T (both a b) → T b
both_right true b t = t
both_right false b t = absurd t

-- The test passes at each number below n.
abbrev pub each : (ℕ → Bool) → ℕ → Bool
each test zero = true
each test (suc n) = both (each test n) (test n)

pub at : (test : ℕ → Bool) (n : ℕ) → T (each test n) → (k : ℕ) → k < n → T (test k)
at test zero t k h = absurd (not-suc-le-zero h)
at test (suc n) t k h =
    elim (dec_le (suc k) n) [
      | yes i ↦ at test n (both_left (each test n) (test n) t) k i
      | no i ↦
          subst (λ (m : ℕ). T (test m)) (le_antisymm (le_of_suc-le-suc (lt_of_not-le i)) (le_of_suc-le-suc h))
          (both_right (each test n) (test n) t)
    ]

-- ── A match on a number ─────────────────────────────────────────────────────────────────────

-- What the arms of 0, 1, .. n - 1 leave of i.
abbrev pub Rest : ℕ → ℕ → Type 0
Rest i zero = Unit {0}
Rest i (suc n) = Rest i n × (i ≡ n → ⊥)

-- It is at least n.
pub past : (i n : ℕ) → Rest i n → n ≤ i
past i zero r = zero-le
past i (suc n) r = elim (dec_le (suc n) i) [ yes h ↦ h | no h ↦ absurd (r.1 (le_antisymm (le_of_suc-le-suc (lt_of_not-le h)) (past i n r.0))) ]

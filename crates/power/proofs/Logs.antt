-- The logarithm of a fraction, from below and from above. Assumes nothing.
use mathlib.Core.Path.{◌≡◌, sym, ap, ◌∙◌}
use Prim.Native.Nat.{ℕ, suc, ◌+◌, ◌-◌, ◌*◌, ◌/◌, ◌%◌, ◌^◌, ◌≤◌, ◌<◌}
use native.Mathlib.Nat.{mod-eq_of_lt, le_trans, le_of_eq, lt_of_lt_of_le, lt_of_not-le, not-le_of_lt, le_of_suc-le-suc, mul-lt-mul_of_pos_right, mul-le-mul_right, mul-pos, le_of_mul-le-mul_right, pow-le-pow_left, one-le-pow, div-mul-le_self, lt-div-mul-add, le-div_iff_mul-le, div-lt_iff_lt-mul}
use native.Mathlib.Decide.{dec_le}
use native.Mathlib.Omega.{arith}
use lib.Dec.{lit≤, lit<}
use lib.Pow.{pow-add, pow-lt, pow_mono, pow_pos}
use lib.Count.{count_leading_zeros, leading_top}
use Rattle.formula.proofs.Wholes.{mul_pow, pow_mul}
use Rattle.power.specs.Steps.{short, logarithm_of}
use Rattle.power.proofs.Twos.{Least, AtMost, AtLeast, most_mul, most_down, LeastUp, least_none, turn_least, turn_most}
use Rattle.power.proofs.Entries.{loss_most}
use Rattle.power.proofs.Climbs.{Complement, complement_is}

-- ── Of a number in units of 2^-32 ───────────────────────────────────────────────────────────

place_low : (v j : ℕ) → 2 ^ 32 ≤ v → v < 2 ^ suc j → 32 ≤ j
place_low v j low h =
    elim (dec_le 32 j) [ yes k ↦ k | no k ↦ absurd (not-le_of_lt h (le_trans (pow_mono {i = suc j} {j = 32} (lt_of_not-le k)) low)) ]

place_high : (v j : ℕ) → v ≤ 2 ^ 52 → 2 ^ j ≤ v → j ≤ 52
place_high v j high h =
    elim (dec_le j 52) [ yes k ↦ k | no k ↦ absurd (not-le_of_lt (lit< {m = 2 ^ 52} {n = 2 ^ 53} tt) (le_trans (pow_mono {i = 53} {j = j} (lt_of_not-le k)) (le_trans h high))) ]

-- v with its z zeros before it, moved up to the place 62.
pub record Placed (v z : ℕ) : Type 0 where
  pub some : 11 ≤ z
  pub few : z ≤ 31
  pub low : 2 ^ 62 ≤ v * 2 ^ (z - 1)
  pub high : v * 2 ^ (z - 1) < 2 ^ 63

pub placed : (v : ℕ) → 2 ^ 32 ≤ v → v ≤ 2 ^ 52 → Placed v (count_leading_zeros 64 v)
placed v low high = go (count_leading_zeros 64 v) (leading_top 64 v (omega arith) (omega arith))
  where
    go : (z : ℕ) → (j : ℕ) × (z + suc j ≡ 64) × (2 ^ j ≤ v) × (v < 2 ^ suc j) → Placed v z
    go z t =
        let j = t.0 in
        let from : 32 ≤ j = place_low v j low t.3 in
        let to : j ≤ 52 = place_high v j high t.2 in
        let sum : z + suc j ≡ 64 = t.1 in
        let w = 2 ^ (z - 1) in
        let a : 62 ≡ j + (z - 1) = omega arith in
        let b : 63 ≡ suc j + (z - 1) = omega arith in
        record {
          some = omega arith;
          few = omega arith;
          low = le_trans (le_of_eq (ap (λ (k : ℕ). 2 ^ k) a)) (rw (pow-add 2 j (z - 1)) (mul-le-mul_right w t.2));
          high = lt_of_lt_of_le (mul-lt-mul_of_pos_right t.3 (pow_pos (z - 1))) (le_of_eq (sym (ap (λ (k : ℕ). 2 ^ k) b ∙ pow-add 2 (suc j) (z - 1))));
        }

-- What is left of it above 2^32.
place_sum : (z : ℕ) → 11 ≤ z → z ≤ 31 → 2 ^ (32 - z) * 2 ^ 32 * 2 ^ (z - 1) ≡ 2 ^ 63
place_sum z some few =
    let a : 32 - z + 32 + (z - 1) ≡ 63 = omega arith in
    sym (pow-add 2 (32 - z + 32) (z - 1) ∙ ap (λ (k : ℕ). k * 2 ^ (z - 1)) (pow-add 2 (32 - z) 32)) ∙ ap (λ (k : ℕ). 2 ^ k) a

turn_order : (x v w u : ℕ) → x * w ≡ u → x * (v * w) ≤ u * v
turn_order x v w u e = le_of_eq (omega (arith, ap (λ (k : ℕ). k * v) e))

turn_order' : (x y v w u P Q : ℕ) → x * y * w ≡ u → u * P * (v * Q) ≤ x * (y * P) * (v * w * Q)
turn_order' x y v w u P Q e = le_of_eq (omega (arith, ap (λ (k : ℕ). k * (v * P * Q)) e))

log_lower : (v z g : ℕ) → 2 ^ 32 ≤ v → Placed v z → Complement (v * 2 ^ (z - 1)) g → AtLeast v (2 ^ 32) ((32 - z) * 2 ^ 32 - (g + short)) (2 ^ 32)
log_lower v z g low p lacks =
    elim (dec_le (g + short) ((32 - z) * 2 ^ 32)) [
      | yes h ↦
          let a : AtMost (2 ^ (32 - z) * 2 ^ 32) v (g + short) (2 ^ 32) = most_down (omega (arith, p.low)) (turn_order (2 ^ (32 - z) * 2 ^ 32) v (2 ^ (z - 1)) (2 ^ 63) (place_sum z p.some p.few)) lacks.most in
          turn_least (32 - z) ((32 - z) * 2 ^ 32 - (g + short)) (2 ^ 32) (omega arith) a
      | no h ↦ let e : (32 - z) * 2 ^ 32 - (g + short) ≡ 0 = omega (arith, lt_of_not-le h) in rw e (LeastUp (lit≤ tt) (mul-le-mul_right (2 ^ 32) low) (least_none (2 ^ 32) (2 ^ 32)))
    ]

log_upper : (v z g : ℕ) → Placed v z → Complement (v * 2 ^ (z - 1)) g → AtMost (v * (2 ^ 61) ^ 6) (2 ^ 32 * (2 ^ 61 + 1) ^ 6) ((32 - z) * 2 ^ 32 - (g + short) + short) (2 ^ 32)
log_upper v z g p lacks =
    let P = (2 ^ 61 + 1) ^ 6 in
    let Q = (2 ^ 61) ^ 6 in
    let a : AtLeast (2 ^ (32 - z) * (2 ^ 32 * P)) (v * Q) g (2 ^ 32) =
    LeastUp (mul-pos (omega (arith, p.low)) (lit≤ tt)) (turn_order' (2 ^ (32 - z)) (2 ^ 32) v (2 ^ (z - 1)) (2 ^ 63) P Q (place_sum z p.some p.few)) lacks.least in
    turn_most (32 - z) ((32 - z) * 2 ^ 32 - (g + short) + short) (2 ^ 32 * P) (omega arith) a

-- It fits a word where it is moved to.
pub moved_up : (v z : ℕ) → Placed v z → v * 2 ^ (z - 1) % 2 ^ 64 ≡ v * 2 ^ (z - 1)
moved_up v z p = mod-eq_of_lt (lt_of_lt_of_le p.high (lit≤ tt))

-- ── Of a fraction ───────────────────────────────────────────────────────────────────────────

-- a/b is less than one rounding above v / 2^32; P/Q is what else the logarithm has lost.
log_over : (a b v s P Q : ℕ) → a * s < (v + 1) * b → s ≤ v → a * (s * P * (s * Q)) ≤ v * Q * ((s + 1) * P) * b
log_over a b v s P Q h low =
    let h' : a * s ≤ (v + 1) * b = omega arith in
    let i : (v + 1) * s ≤ v * (s + 1) = omega arith in
    let g : a * s * s ≤ v * (s + 1) * b = omega (arith, mul-le-mul_right s h', mul-le-mul_right b i) in
    omega (arith, mul-le-mul_right (P * Q) g)

module _ (v : ℕ) (low : 2 ^ 32 ≤ v) (high : v ≤ 2 ^ 52) where
  log_least : AtLeast v (2 ^ 32) (logarithm_of v) (2 ^ 32)
  unfolding logarithm_of
  log_least =
      let p = placed v low high in
      let g = complement_is (v * 2 ^ (count_leading_zeros 64 v - 1)) p.low p.high in
      rw g.2 (log_lower v (count_leading_zeros 64 v) g.0 low p g.1)

  log_most : AtMost (v * (2 ^ 61) ^ 6) (2 ^ 32 * (2 ^ 61 + 1) ^ 6) (logarithm_of v + short) (2 ^ 32)
  unfolding logarithm_of
  log_most =
      let p = placed v low high in
      let g = complement_is (v * 2 ^ (count_leading_zeros 64 v - 1)) p.low p.high in
      rw g.2 (log_upper v (count_leading_zeros 64 v) g.0 p g.1)

module _ {a b : ℕ} (some : 1 ≤ b) (from_one : b ≤ a) (moderate : a ≤ b * 2 ^ 20) where
  pub quotient_low : 2 ^ 32 ≤ a * 2 ^ 32 / b
  quotient_low = (le-div_iff_mul-le some).1 (omega arith)

  pub quotient_high : a * 2 ^ 32 / b ≤ 2 ^ 52
  quotient_high = le_of_suc-le-suc ((div-lt_iff_lt-mul some).1 (omega arith))

  pub log_below : AtLeast a b (logarithm_of (a * 2 ^ 32 / b)) (2 ^ 32)
  log_below = LeastUp (lit≤ tt) (div-mul-le_self (a * 2 ^ 32) b) (log_least (a * 2 ^ 32 / b) quotient_low quotient_high)

  pub log_above : AtMost a b (logarithm_of (a * 2 ^ 32 / b) + 7) (2 ^ 32)
  log_above =
      let v = a * 2 ^ 32 / b in
      let over : a * 2 ^ 32 < (v + 1) * b = omega (arith, lt-div-mul-add {a = a * 2 ^ 32} some) in
      let e : logarithm_of v + short + 2 ≡ logarithm_of v + 7 = omega arith in
      let h : AtMost a b (logarithm_of v + short + 2) (2 ^ 32) =
      most_down (lit≤ tt) (log_over a b v (2 ^ 32) ((2 ^ 61 + 1) ^ 6) ((2 ^ 61) ^ 6) over quotient_low) (most_mul (log_most v quotient_low quotient_high) loss_most) in
      rw e at h

-- The logarithm of what is at most 2^k.
pub log_capped : {a b l n : ℕ} (k : ℕ) → 0 < b → a ≤ b * 2 ^ k → AtLeast a b l n → l ≤ k * n
unfolding Least
log_capped {a} {b} {l} {n} k pos h g =
    let x : a ^ n ≤ b ^ n * 2 ^ (k * n) = rw (← pow_mul 2 k n, ← mul_pow b (2 ^ k) n) (pow-le-pow_left h n) in
    let y : 2 ^ l * b ^ n ≤ 2 ^ (k * n) * b ^ n = le_trans g.shut (omega (arith, x)) in
    let z : 2 ^ l ≤ 2 ^ (k * n) = le_of_mul-le-mul_right {k = b ^ n} y (one-le-pow n b pos) in
    elim (dec_le l (k * n)) [ yes i ↦ i | no i ↦ absurd (not-le_of_lt (pow-lt (lt_of_not-le i)) z) ]

-- A fraction a/b from 1 upwards as a pair: its leading 31 bits, and one more. Assumes nothing.
use mathlib.Core.Path.{◌≡◌, ap₂}
use mathlib.Core.Logic.{inl, inr}
use Prim.Native.Nat.{ℕ, ◌+◌, ◌-◌, ◌*◌, ◌/◌, ◌^◌, ◌≤◌, ◌<◌}
use native.Mathlib.Nat.{le_antisymm, le_trans, lt_of_lt_of_le, lt_of_le_of_lt, lt_of_not-le, not-le_of_lt, eq-zero-or-pos, mul-le-mul_right, le_of_suc-le-suc}
use native.Mathlib.Nat.{suc-pred-eq_of_pos, div-mul-le_self, lt-div-mul-add, le-div_iff_mul-le, div-lt_iff_lt-mul}
use native.Mathlib.Decide.{dec_le}
use native.Mathlib.Omega.{arith}
use lib.Dec.{leb, lit<}
use lib.Pow.{pow-add, pow_pos, pow_mono}
use borrow.Author.Tests.{leb-true, leb-false}
use Rattle.formula.specs.Formula.{◌//◌, ◌≼◌, Side, below, above, lies, at_most, at_least}
use Rattle.number.specs.Division.{Floor}
use Rattle.root.proofs.Roots.{Found, greatest_found}
use Rattle.number.proofs.Divisions.{floor_unique}
use Rattle.plain_power.specs.declared.Num.{Num}
use Rattle.plain_power.specs.declared.Pair.{Pair}
use Rattle.plain_power.specs.Numbers.{val, Ready}
use Rattle.plain_power.specs.Steps.{next, cut_of, base_of}
use Rattle.plain_power.proofs.Squares.{fraction, end, twice, next_is}

-- v lies between r and r with one more in its mantissa, which has at least 31 bits.
pub record Leads (v : ℕ) (r : Num) : Type 0 where
  pub low : 2 ^ 30 ≤ r.m
  pub at_most : val r ≤ v
  pub next_above : v < val (next r)

abbrev num : ℕ → ℕ → Num
num m e = record { m = m; e = e }

leads_from : {v : ℕ} {r : Num} → Leads v r → 2 ^ (30 + r.e) ≤ v
leads_from {v} {r} c = rw (pow-add 2 30 r.e) (le_trans (mul-le-mul_right (2 ^ r.e) c.low) c.at_most)

pub leads_small : {v : ℕ} {r : Num} → v ≤ 2 ^ 50 → Leads v r → r.e ≤ 20
leads_small {v} {r} top c =
    elim (dec_le r.e 20) [
      | yes h ↦ h
      | no h ↦ let x : 2 ^ 51 ≤ 2 ^ (30 + r.e) = pow_mono {i = 51} (omega (arith, lt_of_not-le h)) in omega (arith, leads_from c)
    ]

-- ── With 31 bits there is one such number ───────────────────────────────────────────────────

leads_to : {v : ℕ} {r : Num} → r.m < 2 ^ 31 → Leads v r → v < 2 ^ (31 + r.e)
leads_to {v} {r} high c = rw (pow-add 2 31 r.e) (lt_of_lt_of_le c.next_above (mul-le-mul_right (2 ^ r.e) (omega arith)))

exponent_order : {v : ℕ} {r s : Num} → s.m < 2 ^ 31 → Leads v r → Leads v s → r.e ≤ s.e
exponent_order {v} {r} {s} high c d =
    elim (dec_le r.e s.e) [
      | yes h ↦ h
      | no h ↦ absurd (not-le_of_lt (leads_to high d) (le_trans (pow_mono (omega (arith, lt_of_not-le h))) (leads_from c)))
    ]

leads_floor : {v : ℕ} {r : Num} → Leads v r → Floor v (2 ^ r.e) r.m
leads_floor c = record { at_most = c.at_most; next_above = c.next_above }

leads_unique : {v : ℕ} {r s : Num} → r.m < 2 ^ 31 → s.m < 2 ^ 31 → Leads v r → Leads v s → r ≡ s
leads_unique {v} {r} {s} h k c d =
    let e : r.e ≡ s.e = le_antisymm (exponent_order k c d) (exponent_order h d c) in
    let f : Floor v (2 ^ s.e) r.m = rw e at (leads_floor c) in
    ap₂ num (floor_unique f (leads_floor d)) e

module _ (v : ℕ) (low : 2 ^ 30 ≤ v) (high : v ≤ 2 ^ 50) where
  cut_exponent : (e : ℕ) → Found (λ e. leb (2 ^ (30 + e)) v) 20 e → (2 ^ (30 + e) ≤ v) × (v < 2 ^ (31 + e))
  cut_exponent e found = (
    elim (eq-zero-or-pos e) [ inl z ↦ rw z low | inr pos ↦ leb-true _ _ (found.passes pos) ],
    elim (dec_le (e + 1) 20) [
      | yes l ↦ rw (same e) (leb-false _ _ (found.fails (e + 1) (omega arith) l))
      | no l ↦ lt_of_le_of_lt high (lt_of_lt_of_le (lit< tt) (pow_mono {i = 51} (omega (arith, lt_of_not-le l))))
    ],
  )
    where
      same : (e : ℕ) → 31 + e ≡ 30 + (e + 1)
      same e = omega arith

  cut_at : (e : ℕ) → (2 ^ (30 + e) ≤ v) × (v < 2 ^ (31 + e)) → Leads v (num (v / 2 ^ e) e) × (v / 2 ^ e < 2 ^ 31)
  cut_at e h =
      let from : 2 ^ 30 * 2 ^ e ≤ v = rw (pow-add 2 30 e) at h.0 in
      let to : v < 2 ^ 31 * 2 ^ e = rw (pow-add 2 31 e) at h.1 in (
        record {
          low = (le-div_iff_mul-le (pow_pos e)).1 from;
          at_most = div-mul-le_self v (2 ^ e);
          next_above = omega (arith, lt-div-mul-add {a = v} (pow_pos e));
        },
        (div-lt_iff_lt-mul (pow_pos e)).1 to,
      )

  -- It is the one of that name.
  pub cut_is : Leads v (cut_of v) × ((cut_of v).m < 2 ^ 31)
  unfolding cut_of
  cut_is = cut_at _ (cut_exponent _ (greatest_found (λ e. leb (2 ^ (30 + e)) v) 20))

  -- Of the m binary digits of v 31 are kept.
  pub cut_digits : (z m : ℕ) → z + m ≡ 64 → v < 2 ^ m → 2 ^ m ≤ 2 * v + 1 → (z ≤ 33) × (num (v / 2 ^ (33 - z)) (33 - z) ≡ cut_of v)
  cut_digits z m sum under from =
      let many : 31 ≤ m = lt_of_not-le (λ (few : m ≤ 30). not-le_of_lt under (le_trans (pow_mono few) low)) in
      (omega arith, go (33 - z) (omega arith))
    where
      go : (e : ℕ) → m ≡ 30 + e + 1 → num (v / 2 ^ e) e ≡ cut_of v
      go e digits =
          let to : v < 2 ^ (30 + e + 1) = rw digits at under in
          let half : 2 * 2 ^ (30 + e) ≤ 2 * v + 1 = rw (digits, twice (30 + e)) at from in
          let same : 30 + e + 1 ≡ 31 + e = omega arith in
          let found = cut_at e (omega arith, rw same at to) in
          leads_unique found.1 cut_is.1 found.0 cut_is.0

-- ── The fraction between two numbers ────────────────────────────────────────────────────────

-- x encloses the fraction a/b.
pub record Based (a b : ℕ) (x : Pair) : Type 0 where
  pub ready : Ready x
  pub holds : (s : Side) → lies s (fraction (end s x)) (a // b)

module _ {a b : ℕ} (pos : 1 ≤ b) (ba : b ≤ a) (ab : a ≤ b * 2 ^ 20) where
  pub quotient_low : 2 ^ 30 ≤ a * 2 ^ 30 / b
  quotient_low = (le-div_iff_mul-le pos).1 (omega arith)

  pub quotient_high : a * 2 ^ 30 / b ≤ 2 ^ 50
  quotient_high = le_of_suc-le-suc ((div-lt_iff_lt-mul pos).1 (omega arith))

  pub based : Based a b (base_of a b)
  unfolding base_of
  based = go (cut_of (a * 2 ^ 30 / b)) (cut_is _ quotient_low quotient_high).0 (cut_is _ quotient_low quotient_high).1
    where
      down : {n : Num} → Leads (a * 2 ^ 30 / b) n → fraction n ≼ a // b
      down c = record { cross = rw (suc-pred-eq_of_pos pos) (omega (arith, mul-le-mul_right b c.at_most, div-mul-le_self (a * 2 ^ 30) b)) }

      up : {n : Num} → Leads (a * 2 ^ 30 / b) n → a // b ≼ fraction (next n)
      up c = record { cross = rw (suc-pred-eq_of_pos pos) (omega (arith, mul-le-mul_right b c.next_above, lt-div-mul-add {a = a * 2 ^ 30} pos)) }

      go : (n : Num) → Leads (a * 2 ^ 30 / b) n → n.m < 2 ^ 31 → Based a b (record { lo = n; hi = next n })
      go n c h =
          let small : n.e ≤ 20 = leads_small quotient_high c in
          record {
            ready = record { lo = omega (arith, c.low); hi = omega (arith, c.low); near = next_is n.m (2 ^ n.e) c.low };
            holds = elim [ below ↦ at_most (down c) | above ↦ at_least (up c) ];
          }

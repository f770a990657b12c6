-- One over a power of b/a, from the pair that encloses the power of a/b.
-- Assumes nothing.
use Prim.Native.Nat.{ℕ, ◌*◌, ◌^◌, ◌≤◌, ◌<◌}
use native.Mathlib.Nat.{suc-pred-eq_of_pos}
use native.Mathlib.Omega.{arith}
use lib.Dec.{lit<}
use Rattle.formula.specs.Formula.{Frac, ◌//◌, ◌≼◌, ◌·◌, ◌↥◌, Side, below, above, other, lies, at_least, LiesPower, Formula, ◌⊘◌, ◌↑◌, bounds, by_lit, by_quotient, by_power}
use Rattle.formula.specs.Words.{whole}
use Rattle.formula.proofs.Wholes.{one_pow}
use Rattle.formula.proofs.Fractions.{◌≈◌, ≼_trans, ↥-mono, ↥-cancel, lies_refl, lies-≈}
use Rattle.formula.proofs.Powers.{inverse, power_inverse}
use Rattle.power.specs.Numbers.{unit}
use Rattle.power.specs.Power.{Raisable, power_of}
use Rattle.power.proofs.Laws.{in_words, capped, power_law}
use Rattle.factor.specs.Factor.{Factored}

-- A number times its inverse.
times_inverse : (t : Frac) (p : 0 < t.num) → t · inverse t p ≈ 1 // 1
times_inverse t p = omega arith

inverted : {T : Formula} {x e : Frac} (s : Side) (t : Frac) (p : 0 < t.num) (q : 0 < x.num) → bounds (other s) T (inverse x q) → LiesPower s t x e
    → bounds s (whole 1 ⊘ T ↑ e) t
inverted s t p q k h = by_quotient (by_lit (lies_refl s _)) (by_power k (power_inverse s p q h)) t.pos (lies-≈ s (times_inverse t p))

-- Where 1 is above a power, its base is at most 1.
base_most : {t x e : Frac} → t ≼ 1 // 1 → 0 < e.num → LiesPower above t x e → x ≼ 1 // 1
base_most {t} {x} {e} h p k = go k.whole
  where
    ones : (m n : ℕ) → 1 // 1 ↥ m ≼ 1 // 1 ↥ n
    ones m n = record { cross = rw (one_pow m, one_pow n) (omega arith) }

    go : lies above (t ↥ e.den) (x ↥ e.num) → x ≼ 1 // 1
    go (at_least g) = ↥-cancel x (1 // 1) e.num p (≼_trans g (≼_trans (↥-mono e.den h) (ones e.den e.num)))

module _ {a b p q : ℕ} (given : Raisable a b p q) where
  -- T is b/a, said as the inverse of a/b.
  pub turned : {T : Formula} (m c : ℕ) (positive : 0 < a) → ((s : Side) → bounds s T (inverse (a // b) positive)) → a * 1 ≤ m * b → m ^ p * 1 ^ q ≤ c ^ q * 1 ^ p → c ≤ 330
      → Factored (whole 1 ⊘ T ↑ (p // q)) (power_of a b p q)
  turned m c positive part small big few =
      let w = power_law given in
      let cap = capped _ unit a b p q m 1 c 1 (lit< tt) given.some (omega (arith, given.part)) (lit< tt) (lit< tt) small big w.encloses_below in
      record {
        encloses = record {
          low = inverted below ((power_of a b p q).lo // unit) (omega (arith, w.low)) positive (part above) (in_words _ _ _ _ _ _ w.encloses_below);
          high = inverted above ((power_of a b p q).hi // unit) (omega (arith, w.low, w.order)) positive (part below) (in_words _ _ _ _ _ _ w.encloses_above);
        };
        near = w.near;
        low = w.low;
        order = w.order;
        high = omega (arith, w.near, cap);
      }

  -- The power of more than 1 is more than 1.
  pub above_one : 0 < p → b < a → (power_of a b p q).hi ≤ unit → ⊥
  above_one some more h =
      let k : (power_of a b p q).hi // unit ≼ 1 // 1 = omega arith in
      let g = base_most k some (in_words _ _ _ _ _ _ (power_law given).encloses_above) in
      omega (arith, rw (suc-pred-eq_of_pos given.some) at g.cross)

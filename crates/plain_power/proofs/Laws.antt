-- The law of the plain power. Assumes nothing.
use mathlib.Core.Path.{◌≡◌, refl}
use mathlib.Core.Bool.{Bool, true, false}
use Prim.Native.Nat.{ℕ, ◌+◌, ◌*◌, ◌^◌, ◌≤◌, ◌<◌}
use native.Mathlib.Nat.{div-mul-le_self, lt-div-mul-add, div-lt_iff_lt-mul}
use native.Mathlib.Omega.{arith}
use lib.Dec.{eqb, lit<}
use borrow.Author.Tests.{eqb-true, eqb-false}
use Rattle.formula.specs.Words.{if}
use Rattle.formula.specs.Formula.{◌//◌, ◌≼◌, below, above, other}
use Rattle.formula.proofs.Fractions.{≼_refl, over-≼}
use Rattle.formula.proofs.Formulas.{power_between}
use Rattle.formula.proofs.Powers.{power_base, up_below, up_above}
use Rattle.plain_power.specs.declared.Pair.{Pair}
use Rattle.power.specs.Power.{BoundsPower, Raisable, one, power_of, Power}
use Rattle.power.proofs.Laws.{ordered, overlap, one_is, power_law}
use Rattle.plain_power.specs.Numbers.{val}
use Rattle.plain_power.specs.Steps.{digits, first_digits, base_of}
use Rattle.plain_power.specs.Plain.{running, by_roots, plain_of}
use Rattle.plain_power.proofs.Squares.{val_low, val_high}
use Rattle.plain_power.proofs.Digits.{reached, Held, from_one, raised, roots_near}
use Rattle.plain_power.proofs.Leading.{Based, based}

module _ {a b p q : ℕ} (given : Raisable a b p q) where
  pub base_is : Based a b (base_of a b)
  base_is = based given.some given.from_one given.moderate

  qpos : 0 < q
  qpos = omega (arith, given.part)

  -- The exponent lies from its first digits to the next number of as many digits.
  digits_small : first_digits p q < 2 ^ digits
  digits_small = (div-lt_iff_lt-mul {k = q} {x = p * 2 ^ digits} {y = 2 ^ digits} qpos).1 (omega (arith, given.part))

  digits_below : reached below (first_digits p q) // (2 ^ digits) ≼ p // q
  digits_below = over-≼ _ _ (lit< tt) qpos (div-mul-le_self (p * 2 ^ digits) q)

  digits_above : p // q ≼ reached above (first_digits p q) // (2 ^ digits)
  digits_above = over-≼ p (first_digits p q + 1) {e = 2 ^ digits} qpos (lit< tt) (omega (arith, lt-div-mul-add {a = p * 2 ^ digits} qpos))

  pub running_holds : Held (base_of a b) (first_digits p q) (2 ^ digits) (running a b p q)
  running_holds = raised (base_of a b) (first_digits p q) base_is.ready digits_small

  by_roots_is : (x r : Pair) → Based a b x → Held x (first_digits p q) (2 ^ digits) r → (a ≡ b → ⊥) → Power a b p q (record { lo = val r.lo; hi = val r.hi })
  unfolding BoundsPower
  by_roots_is x r base held other =
      let lo = power_base (up_below digits_below (from_one base.ready.lo) (held.holds below)) (base.holds below) in
      let hi = power_base (up_above digits_above (from_one base.ready.hi) (held.holds above)) (base.holds above) in
      record {
        encloses_below = lo;
        encloses_above = hi;
        near = roots_near _ _ (val_low (held.norm below)) held.near;
        order = ordered (power_between lo hi (≼_refl (a // b)));
        low = val_low (held.norm below);
        high = val_high (held.norm above);
        of_one = λ e. absurd (other e);
      }

  -- The promises of `power`, kept in full.
  pub plain_law : Power a b p q (plain_of a b p q)
  unfolding plain_of
  plain_law = go (eqb a b) refl
    where
      go : (t : Bool) → eqb a b ≡ t → Power a b p q (if t one (by_roots a b p q))
      go true e = one_is given (eqb-true a b e)
      go false e = by_roots_is (base_of a b) _ base_is running_holds (eqb-false a b e)

  -- It and the desk's overlap; so each end is within the gap of the other's (`lower_alike`, `upper_alike`).
  pub overlapping : ((plain_of a b p q).lo ≤ (power_of a b p q).hi) × ((power_of a b p q).lo ≤ (plain_of a b p q).hi)
  overlapping = (overlap plain_law (power_law given), overlap (power_law given) plain_law)

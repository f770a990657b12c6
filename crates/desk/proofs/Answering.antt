-- The number of an answer, and whether it has a value, by the refusal alone.
-- Assumes nothing.
use mathlib.Core.Path.{◌≡◌, refl, sym}
use mathlib.Core.Logic.{◌⊎◌, inl, inr, ◌↔◌}
use native.Mathlib.Omega.{arith}
use Rattle.std.specs.Prelude.{Option, None, Some, Ok}
use Rattle.ship.specs.declared.Refusal.{Refusal}
use Rattle.ship.specs.declared.Ship.{Ship}
use Rattle.ship.proofs.Order as ship
use Rattle.block.specs.Answers.{unless}
use Rattle.desk.specs.Answers.{answer_by, refusal_number, number_in, lower_in, upper_in}

pub numbered : {A : Type 0} (r : Option Refusal) (x : A) → number_in (unless r x) ≡ refusal_number r
numbered None x = refl
numbered (Some r) x = refl

pub zero_bounded : {A : Type 0} (r : Option Refusal) (x : A) → number_in (unless r x) ≡ 0 ↔ (y : A) × (unless r x ≡ Ok y)
zero_bounded None x = (λ e. (x, refl), λ h. refl)
zero_bounded (Some r) x = (λ e. absurd (omega (arith, e, ship.numbered r)), λ h. cc)

pub no_bound : (r : Option Refusal) (s : Ship) → (r ≡ None → ⊥) → (lower_in (answer_by r s) ≡ 0) × (upper_in (answer_by r s) ≡ 0)
no_bound None s h = absurd (h refl)
no_bound (Some r) s h = (refl, refl)

-- The number 0 is that of no refusal.
pub none : (r : Option Refusal) → refusal_number r ≡ 0 → r ≡ None
none None h = refl
none (Some r) h = absurd (omega (arith, h, ship.numbered r))

-- Nothing is refused, or there is a first refusal.
pub either : (r : Option Refusal) → (r ≡ None) ⊎ ((q : Refusal) × (r ≡ Some q))
either None = inl refl
either (Some q) = inr (q, refl)

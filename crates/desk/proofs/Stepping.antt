-- What the two steps answer in each case, and that one after the other they answer what one call does.
-- Assumes nothing.
use mathlib.Core.Path.{◌≡◌, refl, sym, ap, ap₂, ◌∙◌}
use mathlib.Core.Bool.{Bool, true, false, ◌&&◌}
use mathlib.Core.Logic.{◌↔◌}
use borrow.Author.Tests.{eq-eqb, eqb-true}
use lib.Dec.{eqb}
use Rattle.std.specs.Prelude.{Option, None, Some, Ok, Err}
use Rattle.power.specs.declared.Bounds as pair
use Rattle.ship.specs.Refusals.{first_of}
use Rattle.ship.specs.declared.Refusal.{Refusal}
use Rattle.ship.specs.declared.Refusal.TheVariants.{Speed}
use Rattle.ship.specs.declared.Ship.{Ship}
use Rattle.ship.specs.Figures.{figures}
use Rattle.index.specs.Attained.{index_of}
use Rattle.index.specs.declared.Index.{Index}
use Rattle.index.specs.declared.SpeedBounds.{SpeedBounds}
use Rattle.desk.specs.Answers.{Answer, answer_by}
use Rattle.desk.specs.Steps.{own_speeds, speeds_by, same, index_refusal, index_by, then}

both : (s t : Bool) → s && t ≡ true → (s ≡ true) × (t ≡ true)
both true t e = (refl, e)
both false t e = cc

-- Four numbers that are the same are the same speed bounds, and no other are.
pub same_is : (v w : SpeedBounds) → same v w ≡ true ↔ v ≡ w
same_is v w = (λ e. joined (both _ _ e), λ e. rw e (all w))
  where
    pairs : {a b : pair.Bounds} → (eqb a.lo b.lo && eqb a.hi b.hi) ≡ true → a ≡ b
    pairs {a} {b} e =
        let h = both _ _ e in
        ap₂ {C = pair.Bounds} (λ lo hi. record { lo = lo; hi = hi }) (eqb-true a.lo b.lo h.0) (eqb-true a.hi b.hi h.1)

    joined : ((eqb v.most.lo w.most.lo && eqb v.most.hi w.most.hi) ≡ true) × ((eqb v.least.lo w.least.lo && eqb v.least.hi w.least.hi) ≡ true) → v ≡ w
    joined h = ap₂ {C = SpeedBounds} (λ most least. record { most = most; least = least }) (pairs h.0) (pairs h.1)

    all : (w : SpeedBounds) → same w w ≡ true
    all w = rw (eq-eqb w.most.lo w.most.lo refl, eq-eqb w.most.hi w.most.hi refl, eq-eqb w.least.lo w.least.lo refl, eq-eqb w.least.hi w.least.hi refl)

-- ── Each case ───────────────────────────────────────────────────────────────────────────────

-- The record's own refusal comes first, whatever is handed in.
pub both_refused : {r : Option Refusal} {q : Refusal} (s : Ship) → r ≡ Some q → (speeds_by r s ≡ Err q) × ((v : SpeedBounds) → index_by r s v ≡ Err q)
unfolding first_of
both_refused s e = (rw e, λ v. rw e)

-- Without one the record's own speed bounds give the index, and any other are refused with 13.
pub index_own : {r : Option Refusal} (s : Ship) → r ≡ None → index_by r s (own_speeds s) ≡ Ok (index_of (figures s))
unfolding first_of
index_own s e = rw (e, (same_is (own_speeds s) (own_speeds s)).1 refl)

pub index_other : {r : Option Refusal} (s : Ship) (v : SpeedBounds) → r ≡ None → (v ≡ own_speeds s → ⊥) → index_by r s v ≡ Err Speed
unfolding first_of
index_other {r} s v e h = rw e (go (same v (own_speeds s)) refl)
  where
    go : (t : Bool) → same v (own_speeds s) ≡ t → index_by None s v ≡ Err Speed
    go true k = absurd (h ((same_is v (own_speeds s)).0 k))
    go false k = rw k

-- Bounds come of no refusal and of the record's own speed bounds alone.
pub no_other_index : (r : Option Refusal) (s : Ship) (v : SpeedBounds) (i : Index) → index_by r s v ≡ Ok i → (v ≡ own_speeds s) × (answer_by r s ≡ Ok i)
unfolding first_of
no_other_index (Some q) s v i e = cc
no_other_index None s v i e = go (same v (own_speeds s)) refl
  where
    go : (t : Bool) → same v (own_speeds s) ≡ t → (v ≡ own_speeds s) × (answer_by None s ≡ Ok i)
    go true k = ((same_is v (own_speeds s)).0 k, rw k at e)
    go false k = let z : ◌≡◌ {A = Answer} (Err Speed) (Ok i) = rw k at e in cc

-- One after the other.
pub joined : (r : Option Refusal) (s : Ship) → then (speeds_by r s) (index_by r s) ≡ answer_by r s
unfolding first_of
joined None s = index_own s refl
joined (Some q) s = refl

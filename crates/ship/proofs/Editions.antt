-- Editions: f_m by the two numbers of a record, what rule 19 leaves of a new ship, and what an ice class alone doesn't change.
-- Assumes nothing.
use Prim.Native.Nat.{ℕ, zero, suc, ◌*◌, ◌≤◌}
use mathlib.Core.Path.{◌≡◌, refl, ap}
use mathlib.Core.Bool.{false, ◌||◌}
use mathlib.Core.List.{List, ◌++◌}
use native.Mathlib.Omega.{arith}
use borrow.Author.Tests.{le-ltb, ne_eqb}
use lib.Dec.{eqb}
use lib.ListN.{length, get_or}
use Rattle.std.specs.Prelude.{None}
use Rattle.exact.specs.Ship as exact
use Rattle.exact.specs.Index.{P_ME, emission, strengthened, f_m}
use Rattle.exact.specs.Ranges as ranges
use Rattle.exact.specs.Ranges.{Range, within, Inside}
use Rattle.exact.proofs.Rules.{P_ME_unlimited, f_m_other}
use Rattle.ship.specs.Record.{no_engine, in_class, in_edition}
use Rattle.ship.specs.Refusals.{first_of}
use Rattle.ship.specs.Figures.{last_ice, ice_of, last_edition, edition_of, range_of, uses_of, engine_of, method_of, figures}
use Rattle.ship.specs.Rules.{between, any_used, built, trial_refused, build_refused, not_new, edition_refused, hull_tests, plant_tests, trial_tests, refusal_of}
use Rattle.ship.specs.Accepted as accepted
use Rattle.ship.specs.Accepted.{Within, Sourced, NewEngine, NewShip}
use Rattle.ship.specs.declared.Consumption.{Consumption}
use Rattle.ship.specs.declared.Engine.{Engine}
use Rattle.ship.specs.declared.Build.{Build}
use Rattle.ship.specs.declared.Ship.{Ship}
use Rattle.ship.proofs.Tests.{neither, not_with, each_used}
use Rattle.ship.proofs.Figured.{each_main}
use Rattle.ship.proofs.Right.{no_refusal, changed_accepted, numbers_accepted}

-- ── f_m by number ───────────────────────────────────────────────────────────────────────────

pub first_without : (edition ice : ℕ) → edition ≡ 1 → f_m (edition_of edition) (ice_of ice) ≡ 100
unfolding f_m
first_without edition ice h = rw h

not_strengthened : (ice : ℕ) → (ice ≡ 1 → ⊥) → strengthened (ice_of ice) ≡ 100
unfolding strengthened
not_strengthened zero n = refl
not_strengthened (suc zero) n = absurd (n refl)
not_strengthened (suc (suc zero)) n = refl
not_strengthened (suc (suc (suc ice))) n = refl

pub others_without : (edition ice : ℕ) → (ice ≡ 1 → ⊥) → f_m (edition_of edition) (ice_of ice) ≡ 100
others_without edition ice n = f_m_other (edition_of edition) (ice_of ice) (not_strengthened ice n)

-- ── Layout 1 is EEXI ────────────────────────────────────────────────────────────────────────

not_built : (b : Build) → built b ≡ false → b.edition ≡ 0
unfolding built
not_built b e = grind arith

pub older : (s : Ship) → refusal_of s ≡ None → s.particulars.layout ≡ 1 → s.particulars.build.edition ≡ 0
older s none h = not_built s.particulars.build (not_with (eqb s.particulars.layout 1) _ (no_refusal s none).newer (rw h))

-- ── A new ship ──────────────────────────────────────────────────────────────────────────────

sourced : (c : Consumption) → eqb c.source 3 ≡ false → Sourced (uses_of c)
unfolding uses_of
sourced c e = rw e tt

new_engine : (e : Engine) → not_new e ≡ false → NewEngine (engine_of e)
unfolding engine_of
new_engine e h = record { unlimited = grind arith; uses = sourced e.uses (grind arith) }

-- Of the four methods only the first is none of 2 to 4.
by_declared : (method : ℕ) → Within 1 4 method → between 2 4 method ≡ false → method ≡ 1
by_declared method w e = grind (arith, w.least, w.most)

module _ (s : Ship) (none : refusal_of s ≡ None) (new : s.particulars.build.edition ≡ 0 → ⊥) where
  -- What an EEDI rules out is not there.
  allowed : any_used not_new s.particulars.used s.engines || eqb s.auxiliary.source 3 || between 2 4 s.particulars.method ≡ false
  unfolding edition_refused
  allowed =
      let passed = (no_refusal s none).edition in
      grind arith

  pub new_ship : length s.engines ≡ 4 → NewShip (figures s)
  unfolding figures method_of
  new_ship four =
      let p = s.particulars in
      let es = s.engines in
      let r = numbers_accepted s none in
      let u = r.used in
      let some = any_used not_new p.used es in
      let k = neither (some || eqb s.auxiliary.source 3) (between 2 4 p.method) allowed in
      let j = neither some (eqb s.auxiliary.source 3) k.0 in
      record {
        engines = each_main NewEngine p.used es (omega (arith, u.most)) (λ i h. new_engine (get_or es i no_engine) (each_used not_new p.used es j.0 i (omega (arith, u.most)) h));
        auxiliary_uses = sourced s.auxiliary j.1;
        speed = range_of s.speed;
        method = ap (λ m. method_of m (range_of s.speed) p.trial) (by_declared p.method r.speed.method k.1);
      }

  -- So she is accepted in every edition.
  module _ (edition : ℕ) (listed : edition ≤ last_edition) where
    edition_passed : edition_refused (in_edition edition s) ≡ false
    unfolding edition_refused
    edition_passed = let barred = allowed in grind arith

    layout_passed : eqb s.particulars.layout 1 ≡ false
    layout_passed = ne_eqb s.particulars.layout 1 (λ h. new (older s none h))

    pub every_edition : refusal_of (in_edition edition s) ≡ None
    unfolding trial_refused build_refused
    every_edition =
        let p = s.particulars in
        let q = no_refusal s none in
        changed_accepted s none p.method p.trial (in_edition edition s).particulars.build q.early.speed q.early.ranges q.trial (rw layout_passed) q.build edition_passed

-- ── Every ship inside her ranges ────────────────────────────────────────────────────────────

-- What follows for an engine inside, of each.
each_inside : (P : exact.Engine Range → Type 0) (Q : exact.Engine ℕ → Type 0)
    → ((n : Range) (m limit : ℕ) (c : exact.Consumption Range) (c' : exact.Consumption ℕ) → ranges.Uses within c c'
    → P (record { mcr = n; limit = limit; uses = c }) → Q (record { mcr = m; limit = limit; uses = c' }))
    → {es : List (exact.Engine Range)} {es' : List (exact.Engine ℕ)} → ranges.Engines within es es' → accepted.Each P es → accepted.Each Q es'
each_inside P Q f ranges.no_more accepted.no_more = accepted.no_more
each_inside P Q f (ranges.one_more {n = n} {m = m} {limit = l} {c = c} {c' = c'} h u r) (accepted.one_more p ps) = accepted.one_more (f n m l c c' u p) (each_inside P Q f r ps)

-- P_ME of each of her engines is 75 % of MCR.
pub full_power : {r : exact.Figures Range} {f : exact.Figures ℕ} → NewShip r → Inside r f → accepted.Each (λ e. P_ME e.mcr e.limit ≡ 75 * e.mcr) f.engines
full_power new (ranges.alike e c v) =
    each_inside NewEngine (λ e. P_ME e.mcr e.limit ≡ 75 * e.mcr) (λ n m l c c' u p. rw p.unlimited (P_ME_unlimited m)) e new.engines

-- No consumption is one that stands in.
own_uses : {c : exact.Consumption Range} {c' : exact.Consumption ℕ} → ranges.Uses within c c' → Sourced c → (x y : ℕ) → emission x c' ≡ emission y c'
unfolding emission
own_uses (ranges.same_fuel h) s x y = refl
own_uses ranges.no_source s x y = absurd s

pub own_emissions : {r : exact.Figures Range} {f : exact.Figures ℕ} → NewShip r → Inside r f → (x y : ℕ)
    → accepted.Each (λ e. emission x e.uses ≡ emission y e.uses) f.engines × (emission x f.auxiliary_uses ≡ emission y f.auxiliary_uses)
own_emissions new (ranges.alike e c v) x y =
    (each_inside NewEngine (λ e. emission x e.uses ≡ emission y e.uses) (λ n m l c c' u p. own_uses u p.uses x y) e new.engines, own_uses c new.auxiliary_uses x y)

-- ── The same ship in another ice class ──────────────────────────────────────────────────────

module _ (s : Ship) (ice : ℕ) (listed : ice ≤ last_ice) (own : s.particulars.ice ≤ last_ice) where
  plant_alike : plant_tests (in_class ice s) ≡ plant_tests s
  unfolding plant_tests
  plant_alike = rw (le-ltb last_ice ice listed, le-ltb last_ice s.particulars.ice own)

  -- Any class that there is, is tested alike.
  pub class_alike : refusal_of (in_class ice s) ≡ refusal_of s
  unfolding refusal_of hull_tests trial_tests trial_refused edition_refused
  class_alike = ap (λ plant. first_of (hull_tests s ++ plant ++ trial_tests false s) None) plant_alike

-- A record of types 1 to 7 with none of what layout 2 adds is tested alike in both layouts, and stands for the same ship.
-- Assumes nothing.
use Prim.Native.Nat.{ℕ, ◌≤◌}
use mathlib.Core.Path.{◌≡◌, refl, sym, ap, ap₂, ◌∙◌}
use mathlib.Core.Bool.{Bool, false, ◌||◌}
use mathlib.Core.List.{List, [], ◌∷◌, ◌++◌}
use borrow.Author.Tests.{le-ltb}
use lib.Dec.{eqb}
use Rattle.std.specs.Prelude.{None}
use Rattle.std.proofs.Math.Bool.{or-false, and-false}
use Rattle.ship.specs.Record.{no_build, in_layout}
use Rattle.ship.specs.Refusals.{first_of}
use Rattle.ship.specs.Figures.{figures}
use Rattle.ship.specs.Rules.{outside, imo_refused, type_refused, deadweight_refused, gross_refused, volume_refused, trial_refused, unused_refused, built}
use Rattle.ship.specs.Rules.{newer_refused, build_refused, edition_refused, hull_tests, plant_tests, trial_tests, refusal_of}
use Rattle.ship.specs.declared.Build.{Build}
use Rattle.ship.specs.declared.Ship.{Ship}
use Rattle.ship.specs.declared.Refusal.{Refusal}
use Rattle.ship.specs.declared.Refusal.TheVariants as refusal

-- Types 1 to 7 are taken in both.
pub seven_in_both : (layout kind : ℕ) → kind ≤ 7 → type_refused layout kind ≡ outside 1 8 kind
seven_in_both layout kind h = rw (le-ltb 7 kind h) (or-false (outside 1 8 kind))

nothing_newer : (layout : ℕ) (b : Build) → b ≡ no_build → newer_refused layout b ≡ false
unfolding built
nothing_newer layout b e = rw e (and-false (eqb layout 1))

module _ (s : Ship) (seven : s.particulars.kind ≤ 7) (nothing : s.particulars.build ≡ no_build) where
  hull_alike : hull_tests (in_layout 1 s) ≡ hull_tests (in_layout 2 s)
  unfolding hull_tests
  hull_alike =
      let p = s.particulars in
      let rows : Bool → List (Bool × Refusal) = λ t.
      (false, refusal.Layout)
      ∷ (imo_refused p.imo, refusal.ImoNumber)
      ∷ (t, refusal.ShipType)
      ∷ (deadweight_refused p.deadweight, refusal.Deadweight)
      ∷ (gross_refused p.kind p.gross, refusal.GrossTonnage)
      ∷ (volume_refused p.kind p.cargo, refusal.CargoVolume)
      ∷ [] in
      ap rows (seven_in_both 1 p.kind seven ∙ sym (seven_in_both 2 p.kind seven))

  trial_alike : trial_tests false (in_layout 1 s) ≡ trial_tests false (in_layout 2 s)
  unfolding trial_tests trial_refused edition_refused
  trial_alike =
      let p = s.particulars in
      let rows : Bool → List (Bool × Refusal) = λ t.
      (trial_refused p s.engines, refusal.Trial)
      ∷ (unused_refused p.used s.engines || t, refusal.Unused)
      ∷ (build_refused p.kind p.build, refusal.Build)
      ∷ (edition_refused s, refusal.Edition)
      ∷ [] in
      ap rows (nothing_newer 1 p.build nothing ∙ sym (nothing_newer 2 p.build nothing))

  pub refused_alike : refusal_of (in_layout 1 s) ≡ refusal_of (in_layout 2 s)
  unfolding refusal_of plant_tests
  refused_alike = ap₂ (λ hull trial. first_of (hull ++ plant_tests (in_layout 1 s) ++ trial) None) hull_alike trial_alike

pub figures_alike : (s : Ship) → figures (in_layout 1 s) ≡ figures (in_layout 2 s)
unfolding figures
figures_alike s = refl

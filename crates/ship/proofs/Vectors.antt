-- Ship S of the document has no refusal, so the rules don't refuse every ship.
-- Assumes nothing.
use mathlib.Core.Path.{◌≡◌, refl}
use Rattle.exact.specs.Index.{P_ME, sum_P_ME}
use Rattle.exact.specs.Ranges.{engines_at}
use Rattle.ship.specs.Ends.{just}
use Rattle.ship.specs.Sample.{reported, S}
use Rattle.ship.specs.Refusals.{first_of}
use Rattle.ship.specs.Figures.{uses_of, engine_of, mains, figures}
use Rattle.ship.specs.Rules.{trial_refused, built, build_refused, edition_refused, hull_tests, plant_tests, trial_tests, refusal_of}
use Rattle.ship.specs.Accepted.{AcceptedFigures}
use Rattle.ship.specs.declared.Ship.{Ship}
use Rattle.std.specs.Prelude.{None}
use Rattle.ship.proofs.Figured.{figures_accepted}

abbrev ship_S : Ship
ship_S = S 0 (reported (just 1800) 3) (just 1400)

no_refusal : refusal_of ship_S ≡ None
unfolding refusal_of first_of hull_tests plant_tests trial_tests built build_refused edition_refused trial_refused sum_P_ME P_ME engines_at mains engine_of uses_of
no_refusal = refl

in_range : AcceptedFigures (figures ship_S)
in_range = figures_accepted ship_S refl no_refusal

-- The figures that are marked P hold.
-- Assumes nothing.
use mathlib.Core.Path.{refl}
use Rattle.exact.specs.Index.{C_F, P_ME, sum_P_ME, rated, by_rule, Capacity, strengthened, f_m, light_cargo, light_vehicles}
use Rattle.exact.specs.Ranges.{uses_at, engines_at, method_at, ship_at}
use Rattle.ship.specs.Refusals.{first_of}
use Rattle.ship.specs.Figures.{uses_of, engine_of, mains, cranes_of, auxiliary_of, method_of, figures}
use Rattle.ship.specs.Rules.{trial_refused, built, build_refused, edition_refused, hull_tests, plant_tests, trial_tests, refusal_of}
use Rattle.plant.specs.Plant.{grams, main_grams, auxiliary_power, main_N, auxiliary_N, allowance_of, load_of}
use Rattle.factor.specs.Factor.{cargo_factor, lifted_of, factor_by}
use Rattle.speed.specs.Speeds.{speed_by}
use Rattle.index.specs.Attained.{index_down, index_up, main_of, emitted, speed_of, factor_of, lower_of, upper_of, index_of}
use Rattle.desk.specs.Answers.{answer_of}
use Rattle.desk.specs.Figures.{All, marked_P}

pub proved : All marked_P
unfolding answer_of refusal_of first_of hull_tests plant_tests trial_tests built build_refused edition_refused trial_refused figures uses_of engine_of mains cranes_of
    auxiliary_of method_of ship_at uses_at engines_at method_at C_F P_ME sum_P_ME rated by_rule Capacity light_cargo
    light_vehicles grams main_grams auxiliary_power main_N auxiliary_N strengthened f_m allowance_of load_of main_of emitted cargo_factor lifted_of factor_by speed_by
    index_down index_up speed_of factor_of lower_of upper_of index_of
proved =
    (refl, (refl, (refl, (refl, (refl, (refl, (refl, (refl, (refl, (refl, (refl, (refl, (refl, (refl, (refl, (refl, (refl, (refl, (refl, (refl, (refl, tt)))))))))))))))))))))

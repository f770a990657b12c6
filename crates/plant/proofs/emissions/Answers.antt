-- `plant::emissions` meets its contract.
-- Assumes nothing.
use mathlib.Core.Bool.{true, false}
use native.Mathlib.Omega.{arith}
use Rattle.ship.specs.Figures.{mains}
use Rattle.plant.proofs.Records.{plant_accepted, Summed, summed}
use Rattle.plant.proofs.emissions.Goals as goal
use Rattle.plant.proofs.emissions.Goals.{After-main_sums}

low_end : (c : After-main_sums) → Summed c.args.a.now false c.main_sums.result.0
unfolding mains
low_end c = summed c.args.a.now false _ c.main_sums.ensures.low_end

high_end : (c : After-main_sums) → Summed c.args.a.now true c.main_sums.result.1
unfolding mains
high_end c = summed c.args.a.now true _ c.main_sums.ensures.high_end

pub main_sums-requires : goal.main_sums-requires
main_sums-requires c =
    let w = plant_accepted c.args.a.now in
    (w.most, w.used, w.engines)

pub overflow_mul-result : goal.overflow_mul-result
overflow_mul-result c = omega (arith, (low_end (goal.at.overflow_mul-result c).After-main_sums).small)

pub overflow_mul-result-2 : goal.overflow_mul-result-2
overflow_mul-result-2 c = omega (arith, (high_end (goal.at.overflow_mul-result-2 c).After-main_sums).small)

pub auxiliary_emission-requires-clause-measured : goal.auxiliary_emission-requires-clause-measured
auxiliary_emission-requires-clause-measured c = rw c.uses-uses.ensures (plant_accepted c.args.a.now).uses

pub auxiliary_emission-requires-clause-supplied : goal.auxiliary_emission-requires-clause-supplied
auxiliary_emission-requires-clause-supplied c = (
  rw c.auxiliary-auxiliary.ensures (plant_accepted c.args.a.now).supplied,
  (low_end (goal.at.auxiliary_emission-requires-clause-supplied c).After-main_sums).mcr,
)

pub auxiliary_emission-requires-2-clause-measured : goal.auxiliary_emission-requires-2-clause-measured
auxiliary_emission-requires-2-clause-measured c = rw c.uses-uses.ensures (plant_accepted c.args.a.now).uses

pub auxiliary_emission-requires-2-clause-supplied : goal.auxiliary_emission-requires-2-clause-supplied
auxiliary_emission-requires-2-clause-supplied c = (
  rw c.auxiliary-auxiliary.ensures (plant_accepted c.args.a.now).supplied,
  (high_end (goal.at.auxiliary_emission-requires-2-clause-supplied c).After-main_sums).mcr,
)

pub returns : goal.returns
returns c =
    let l = low_end (goal.at.returns c).After-main_sums in
    let h = high_end (goal.at.returns c).After-main_sums in
    let a = c.auxiliary-auxiliary.ensures in
    let u = c.uses-uses.ensures in
    rw (
      ← l.main,
      ← h.main,
      ← l.auxiliary a u,
      ← h.auxiliary a u,
      c.auxiliary_emission.ensures,
      c.auxiliary_emission-2.ensures,
    )

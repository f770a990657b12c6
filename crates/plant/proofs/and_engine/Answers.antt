-- `plant::and_engine` meets its contract.
-- Assumes nothing.
use native.Mathlib.Omega.{arith}
use Rattle.plant.specs.Plant.{top}
use Rattle.plant.proofs.Entries.{AcceptedEngine, engine_accepted}
use Rattle.plant.proofs.and_engine.Goals as goal
use Rattle.plant.proofs.and_engine.Goals.{Start}

entry : (s : Start) → AcceptedEngine (top s.args.at) s.args.e.now
entry s = engine_accepted (top s.args.at) s.args.e.now s.requires.0

pub engine_power-kw-requires : goal.engine_power-kw-requires
engine_power-kw-requires c =
    let u = entry (goal.at.engine_power-kw-requires c).Start in
    (rw c.end_of-mcr.ensures u.mcr, u.limit)

pub overflow_add-rated : goal.overflow_add-rated
overflow_add-rated c = omega (arith, (entry (goal.at.overflow_add-rated c).Start).mcr, c.end_of-mcr.ensures)

pub emission-requires-clause-measured : goal.emission-requires-clause-measured
emission-requires-clause-measured c = rw c.requires.2 (entry (goal.at.emission-requires-clause-measured c).Start).uses.0

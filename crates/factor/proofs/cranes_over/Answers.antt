-- `factor::cranes_over` meets its contract.
-- Assumes nothing.
use Rattle.number.proofs.Divisions.{floor_named, ceil_named}
use Rattle.factor.specs.Factor.{cranes_factor}
use Rattle.factor.proofs.Lifting.{crane_divisible}
use Rattle.factor.proofs.cranes_over.Goals as goal

pub both_scaled-f-requires : goal.both_scaled-f-requires
both_scaled-f-requires c = crane_divisible _ _ c.requires.0 c.lifted.ensures.1

pub returns : goal.returns
unfolding cranes_factor
returns c =
    let d = (crane_divisible _ _ c.requires.0 c.lifted.ensures.1).some in
    rw (floor_named d c.both_scaled-f.ensures.floor, ceil_named d c.both_scaled-f.ensures.ceil, c.lifted.ensures.0)

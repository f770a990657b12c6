-- `plant::emission` meets its contract.
-- Assumes nothing.
use Prim.Native.Nat.{◌*◌, ◌≤◌}
use mathlib.Core.Path.{◌≡◌}
use native.Mathlib.Omega.{arith}
use Rattle.exact.specs.Ranges.{uses_at}
use Rattle.ship.specs.Kinds.{uses_by}
use Rattle.plant.specs.Plant.{top, end, grams}
use Rattle.plant.proofs.Growth.{grams_within}
use Rattle.plant.proofs.emission.Goals as goal
use Rattle.plant.proofs.emission.Goals.{After-end_of}

product : (c : After-end_of)
    → let g = c.conversion.result * c.end_of.result in
    (g ≡ grams c.args.stand_in (uses_at (end (top c.args.at)) (uses_by c.args.uses))) × (g ≤ 12824000)
unfolding grams uses_at
product c =
    let most = (grams_within (top c.args.at) c.args.stand_in c.requires.within _ c.requires.measured).most in
    rw (c.conversion.ensures, c.end_of.ensures) (rw c.in-Recorded.is, rw c.in-Recorded.is at most)

pub overflow_mul-result : goal.overflow_mul-result
overflow_mul-result c = omega (arith, (product (goal.at.overflow_mul-result c).After-end_of).1)

pub returns-in-Recorded : goal.returns-in-Recorded
returns-in-Recorded c = product (goal.at.returns-in-Recorded c).After-end_of

pub returns-in-Neither : goal.returns-in-Neither
unfolding grams uses_at
returns-in-Neither c = (rw c.in-Neither.is, omega (arith, c.requires.within.most))

use Rattle.std.proofs.Common.{rules, ◌≤◌}
use Rattle.std.specs.List.{sum_by}
use Rattle.std.proofs.iter.runs.Made.{chains}
use Rattle.factor.proofs.Lifting.{counted, lifted_sum, lifted_few}
use Rattle.factor.proofs.lifted.Goals as goal

pub sum-requires-clause-fits : goal.sum-requires-clause-fits
sum-requires-clause-fits c =
    let few : sum_by counted c.args.cranes.now ≤ 415456880000 = rw (lifted_sum c.args.cranes.now) (lifted_few _ c.requires.0 c.requires.1) in
    search (rules, chains)

pub returns : goal.returns
returns c =
    let few : sum_by counted c.args.cranes.now ≤ 415456880000 = rw (lifted_sum c.args.cranes.now) (lifted_few _ c.requires.0 c.requires.1) in
    rw (← lifted_sum c.args.cranes.now) (search (rules, chains))

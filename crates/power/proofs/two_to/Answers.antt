-- `power::two_to` meets its contract. Assumes nothing.
use Rattle.power.specs.Table.{coarses, middles, fines}
use Rattle.power.specs.Steps.{two_to}
use Rattle.power.proofs.Raising.{first_fits, second_fits, two_to_fits}
use Rattle.power.proofs.two_to.Goals as goal

pub times-t-requires : goal.times-t-requires
unfolding coarses middles
times-t-requires c =
    let at = c in
    first_fits at.args.f at.requires

pub times-u-requires : goal.times-u-requires
unfolding coarses middles fines
times-u-requires c =
    let at = c in
    rw c.times-t.ensures (second_fits at.args.f at.requires)

pub overflow_add-result : goal.overflow_add-result
unfolding two_to coarses middles fines
overflow_add-result c =
    let at = c in
    record { fits = rw (c.high.ensures, c.times-u.ensures, c.times-t.ensures) (two_to_fits at.args.f at.requires) }

pub returns : goal.returns
unfolding two_to coarses middles fines
returns c = rw (c.high.ensures, c.times-u.ensures, c.times-t.ensures)

-- `power::with_margin` meets its contract. Assumes nothing.
use borrow.Author.Rules.{rules}
use Rattle.power.specs.Steps.{with_margin}
use Rattle.power.proofs.with_margin.Goals as goal

pub returns : goal.returns
unfolding with_margin
returns c = search rules

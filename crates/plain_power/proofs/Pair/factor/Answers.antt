-- `plain_power::Pair::factor` meets its contract. Assumes nothing.
use borrow.Author.Tests.{eq-eqb, ne_eqb}
use Rattle.plain_power.specs.Steps.{digit_factor}
use Rattle.plain_power.proofs.Pair.factor.Goals as goal

pub returns-then-digit-eq0 : goal.returns-then-digit-eq0
unfolding digit_factor
returns-then-digit-eq0 c = rw (eq-eqb _ 0 c.if-digit-eq0.true)

pub returns-else-digit-eq0 : goal.returns-else-digit-eq0
unfolding digit_factor
returns-else-digit-eq0 c = rw (ne_eqb _ 0 c.if-digit-eq0.false)

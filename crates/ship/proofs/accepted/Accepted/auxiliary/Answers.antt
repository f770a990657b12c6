-- `ship::accepted::Accepted::auxiliary` meets its contract. Assumes nothing.
use borrow.Author.Tests.{eq-eqb, ne_eqb}
use Rattle.ship.specs.Figures.{auxiliary_of}
use Rattle.ship.proofs.accepted.Accepted.auxiliary.Goals as goal

pub returns-then-p-eq2 : goal.returns-then-p-eq2
unfolding auxiliary_of
returns-then-p-eq2 c = rw (eq-eqb _ 2 c.if-p-eq2.true)

pub returns-else-p-eq2 : goal.returns-else-p-eq2
unfolding auxiliary_of
returns-else-p-eq2 c = rw (ne_eqb _ 2 c.if-p-eq2.false)

-- `desk::attained_from` meets its contract.
-- Assumes nothing.
use Rattle.ship.specs.Refusals.{first_of}
use Rattle.desk.proofs.attained_from.Goals as goal

pub returns-then-eq : goal.returns-then-eq
unfolding first_of
returns-then-eq c = rw (c.attained.ensures, ← c.speeds-own.ensures, ← c.if-eq.ensures)

pub returns : goal.returns
unfolding first_of
returns c = rw (← c.speeds-own.ensures, ← c.if-eq.ensures)

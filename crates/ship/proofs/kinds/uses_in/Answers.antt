-- `ship::kinds::uses_in` meets its contract. Assumes nothing.
use mathlib.Core.Path.{◌≡◌}
use borrow.Author.Tests.{eq-eqb, ne_eqb}
use Rattle.std.proofs.Common.{rules}
use Rattle.ship.specs.Figures.{fuel_of, uses_of}
use Rattle.ship.specs.Kinds.{burnt}
use Rattle.ship.proofs.kinds.uses_in.Goals as goal

pub returns-then-c-eq3 : goal.returns-then-c-eq3
unfolding uses_of
returns-then-c-eq3 c = rw (eq-eqb _ 3 c.if-c-eq3.true)

pub returns : goal.returns
unfolding uses_of
returns c =
    let fuel : burnt c.unwrap.result ≡ fuel_of c.args.c.now.fuel = search rules in
    rw (ne_eqb _ 3 c.if-c-eq3.false, fuel)

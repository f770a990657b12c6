-- `plain_power::power` meets its contract. Assumes nothing.
use mathlib.Core.Path.{◌≡◌}
use borrow.Author.Tests.{eq-eqb, ne_eqb}
use Rattle.formula.specs.Formula.{below, above}
use Rattle.plain_power.specs.Numbers.{val}
use Rattle.plain_power.specs.Plain.{running, plain_of}
use Rattle.plain_power.proofs.Laws.{base_is, running_holds}
use Rattle.plain_power.proofs.power.Goals as goal

pub returns : goal.returns
unfolding plain_of
returns c =
    let roots = c in
    let given = roots.args in
    let pair : roots.raise-r.result ≡ running given.a given.b given.p given.q = rw roots.of_fraction.ensures at roots.raise-r.ensures in
    let lower : c.whole.result ≡ val roots.raise-r.result.lo = c.whole.ensures in
    let upper : c.whole-2.result ≡ val roots.raise-r.result.hi = c.whole-2.ensures in
    rw (ne_eqb _ _ roots.if-a-b.false, lower, upper, pair)

pub returns-then-a-b : goal.returns-then-a-b
unfolding plain_of
returns-then-a-b c =
    let same : c.args.a ≡ c.args.b = c.if-a-b.true in
    rw (eq-eqb _ _ same)

pub raise-r-requires : goal.raise-r-requires
raise-r-requires c = rw c.of_fraction.ensures (base_is c.requires).ready

pub whole-requires : goal.whole-requires
whole-requires c = rw (c.raise-r.ensures, c.of_fraction.ensures) ((running_holds c.requires).norm below)

pub whole-requires-2 : goal.whole-requires-2
whole-requires-2 c = rw (c.raise-r.ensures, c.of_fraction.ensures) ((running_holds c.requires).norm above)

-- `power::power` meets its contract. Assumes nothing.
use mathlib.Core.Path.{◌≡◌}
use native.Mathlib.Omega.{arith}
use borrow.Author.Tests.{eq-eqb, ne_eqb}
use Rattle.power.specs.Power.{power_of}
use Rattle.power.proofs.Laws.{share_fits, whole_few, lower_fits}
use Rattle.power.proofs.power.Goals as goal

pub returns-then-a-b : goal.returns-then-a-b
unfolding power_of
returns-then-a-b c =
    let same : c.args.a ≡ c.args.b = c.if-a-b.true in
    rw (eq-eqb _ _ same)

pub overflow_mul-e : goal.overflow_mul-e
overflow_mul-e c = record { fits = rw c.logarithm.ensures (share_fits c.requires) }

pub overflow_sub-e : goal.overflow_sub-e
overflow_sub-e c = rw c.logarithm.ensures (omega (arith, whole_few c.requires))

pub with_margin-requires : goal.with_margin-requires
with_margin-requires c = rw (c.two_to.ensures, c.logarithm.ensures) (lower_fits c.requires)

pub returns : goal.returns
unfolding power_of
returns c = rw (ne_eqb _ _ c.if-a-b.false, c.with_margin.ensures, c.two_to.ensures, c.logarithm.ensures)

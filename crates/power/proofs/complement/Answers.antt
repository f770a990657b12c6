-- `power::complement` meets its contract. Assumes nothing.
use native.Mathlib.Omega.{arith}
use lib.Dec.{lit<}
use Rattle.power.specs.Table.{middles, fines}
use Rattle.power.specs.Steps.{complement_of}
use Rattle.power.proofs.Climbs.{first_is, first_exponent, second_few, second_is, second_exponent, third_few, third_is, third_exponent}
use Rattle.power.proofs.complement.Goals as goal

pub returns : goal.returns
unfolding complement_of middles fines
returns c = rw (c.step-n.ensures, c.step.ensures, c.first.ensures)

pub step-requires-clause-start : goal.step-requires-clause-start
step-requires-clause-start c =
    let at = c in
    rw c.first.ensures
    ((first_is at.args.m at.requires.0 at.requires.1).close.high, omega (arith, first_exponent at.args.m at.requires.0 at.requires.1))

pub step-requires-clause-digit : goal.step-requires-clause-digit
step-requires-clause-digit c =
    let at = c in
    let few = second_few _ (first_is at.args.m at.requires.0 at.requires.1).close in
    rw c.first.ensures (lit< tt, few, omega arith)

pub step-n-requires-clause-start : goal.step-n-requires-clause-start
unfolding middles
step-n-requires-clause-start c =
    let at = c in
    rw (c.step.ensures, c.first.ensures)
    ((second_is at.args.m at.requires.0 at.requires.1).close.high, second_exponent at.args.m at.requires.0 at.requires.1)

pub step-n-requires-clause-digit : goal.step-n-requires-clause-digit
unfolding middles
step-n-requires-clause-digit c =
    let at = c in
    let few = third_few _ (second_is at.args.m at.requires.0 at.requires.1).close in
    rw (c.step.ensures, c.first.ensures) (lit< tt, few, omega arith)

pub overflow_sub-result : goal.overflow_sub-result
unfolding middles fines
overflow_sub-result c =
    let at = c in
    rw (c.step-n.ensures, c.step.ensures, c.first.ensures) (third_is at.args.m at.requires.0 at.requires.1).close.high

pub overflow_mul-result : goal.overflow_mul-result
unfolding middles fines
overflow_mul-result c =
    let at = c in
    rw (c.step-n.ensures, c.step.ensures, c.first.ensures)
    (omega (arith, (third_is at.args.m at.requires.0 at.requires.1).close.near))

pub overflow_add-result : goal.overflow_add-result
unfolding middles fines
overflow_add-result c =
    let at = c in
    rw (c.step-n.ensures, c.step.ensures, c.first.ensures)
    (omega (arith, (third_is at.args.m at.requires.0 at.requires.1).close.near, third_exponent at.args.m at.requires.0 at.requires.1))

pub overflow_add-result-2 : goal.overflow_add-result-2
unfolding middles fines
overflow_add-result-2 c =
    let at = c in
    rw (c.step-n.ensures, c.step.ensures, c.first.ensures)
    (omega (arith, (third_is at.args.m at.requires.0 at.requires.1).close.near, third_exponent at.args.m at.requires.0 at.requires.1))

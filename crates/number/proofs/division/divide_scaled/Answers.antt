-- `number::division::divide_scaled` meets its contract: after so many digits d goes q times into n * base ^ digits and leaves r. Assumes nothing.
use native.Mathlib.Omega.{arith}
use Rattle.number.proofs.Divisions.{one_digit, quotient_fits}
use Rattle.number.proofs.division.divide_scaled.Goals as goal

pub overflow_mul-q : goal.overflow_mul-q
overflow_mul-q c =
    let at = c in
    omega (arith, quotient_fits at.requires at.loop.counter at.loop.invariant c.digit-next.ensures c.loop-test.true)

pub overflow_add-q : goal.overflow_add-q
overflow_add-q c =
    let at = c in
    omega (arith, quotient_fits at.requires at.loop.counter at.loop.invariant c.digit-next.ensures c.loop-test.true)

pub loop-preserved : goal.loop-preserved
loop-preserved c =
    let at = c in
    one_digit at.requires at.loop.counter at.loop.invariant c.digit-next.ensures

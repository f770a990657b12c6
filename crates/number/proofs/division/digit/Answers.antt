-- `number::division::digit` meets its contract: where the estimate is not the digit it is one more. Assumes nothing.
use native.Mathlib.Omega.{arith}
use Rattle.number.proofs.Divisions.{cut, share_small, digit_exact, digit_less}
use Rattle.number.proofs.division.digit.Goals as goal

pub returns-then-enough : goal.returns-then-enough
returns-then-enough c = digit_exact c.requires (cut c.requires c.if-direct.false) c.if-enough.true

pub overflow_sub-rest-2 : goal.overflow_sub-rest-2
overflow_sub-rest-2 c = omega (arith, share_small c.requires (cut c.requires c.if-direct.false))

pub returns : goal.returns
returns c = digit_less c.requires (cut c.requires c.if-direct.false) c.if-enough.false

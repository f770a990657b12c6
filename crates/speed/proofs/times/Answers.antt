-- `speed::times` meets its contract. Assumes nothing.
use lib.Dec.{lit<}
use native.Mathlib.Nat.{mul-le-mul}
use native.Mathlib.Omega.{arith}
use Rattle.number.proofs.Divisions.{div_ceil_named}
use Rattle.speed.proofs.times.Goals as goal

pub overflow_mul-lo : goal.overflow_mul-lo
overflow_mul-lo c =
    omega (arith, mul-le-mul c.requires.0 c.requires.1)

pub overflow_mul-v : goal.overflow_mul-v
overflow_mul-v c = omega (arith, mul-le-mul c.requires.0 c.requires.2)

pub returns : goal.returns
returns c = rw (c.div_ceil-hi.ensures, div_ceil_named _ 100 (lit< tt))

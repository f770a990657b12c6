-- `correction::raised` meets its contract. Assumes nothing.
use Prim.Native.Nat.{◌*◌}
use native.Mathlib.Omega.{arith}
use Rattle.number.proofs.Divisions.{div_ceil_named}
use Rattle.correction.specs.Correction.{raised_of}
use Rattle.correction.proofs.Stretch.{raised_law, stretch_fits}
use Rattle.correction.proofs.raised.Goals as goal

pub overflow_mul-y : goal.overflow_mul-y
overflow_mul-y c = rw c.power-y.ensures (omega (arith, stretch_fits c.requires))

pub overflow_add-result : goal.overflow_add-result
unfolding raised_of
overflow_add-result c =
    let given = c.requires in
    rw (c.div_ceil.ensures, div_ceil_named _ (10 * c.args.a) (omega (arith, given.some, given.from_one)), c.power-y.ensures) (omega (arith, (raised_law given).size.high))

pub returns : goal.returns
unfolding raised_of
returns c =
    let given = c.requires in
    rw (c.div_ceil.ensures, div_ceil_named _ (10 * c.args.a) (omega (arith, given.some, given.from_one)), c.power-y.ensures)

-- `power::first` meets its contract. Assumes nothing.
use Prim.Native.Nat.{◌-◌, ◌/◌, ◌^◌}
use native.Mathlib.Omega.{arith}
use Rattle.power.specs.Table.{coarses}
use Rattle.power.specs.Steps.{first_of}
use Rattle.power.proofs.Entries.{start_is}
use Rattle.power.proofs.first.Goals as goal

pub bounds-c : goal.bounds-c
bounds-c c = rw c.first_digit-c.ensures (start_is (c.args.m / 2 ^ 56 - 64) (omega arith)).few

pub offset_bounds-c : goal.offset_bounds-c
offset_bounds-c c = omega (arith, bounds-c c)

pub overflow_mul-result : goal.overflow_mul-result
overflow_mul-result c = rw c.first_digit-c.ensures (omega (arith, (start_is (c.args.m / 2 ^ 56 - 64) (omega arith)).few))

pub returns : goal.returns
unfolding first_of coarses
returns c = rw (c.times.ensures, c.first_digit-c.ensures)

-- `plain_power::Pair::raise` meets its contract: what the digits still to come make of the running pair is the answer all along. Assumes nothing.
use mathlib.Core.Path.{◌≡◌}
use Prim.Native.Nat.{◌-◌}
use Rattle.formula.specs.Formula.{Side}
use Rattle.plain_power.specs.Numbers.{Norm}
use Rattle.plain_power.specs.Steps.{digits, unraised, raise_of}
use Rattle.plain_power.proofs.Squares.{end}
use Rattle.plain_power.proofs.Pair.raise.Given as goal

abbrev pub invariant-loop : goal.invariant-loop
invariant-loop l = record {
  norm : (s : Side) → Norm (end s l.p);
  to_come : raise_of l.self l.p l.rest (digits - l.counter) ≡ raise_of l.self (unraised l.self) l.d digits;
}

-- `number::division::divide_scaled` meets its contract: after so many digits d goes q times into n * base ^ digits and leaves r. Assumes nothing.
use Prim.Native.Nat.{◌*◌, ◌^◌}
use Rattle.number.specs.Division.{Divided}
use Rattle.number.proofs.division.divide_scaled.Given as goal

abbrev pub invariant-loop : goal.invariant-loop
invariant-loop l = Divided (l.n * l.base ^ l.counter) l.d l.q l.r

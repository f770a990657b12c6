-- `power::first_digit` meets its contract. Assumes nothing.
use mathlib.Core.Path.{refl}
use Prim.Native.Nat.{◌+◌, ◌*◌}
use lib.Dec.{leb, leb→le}
use Rattle.power.specs.Steps.{first_digit}
use Rattle.formula.proofs.Tables.{at}
use Rattle.power.proofs.first_digit.Goals as goal

pub overflow_sub-result : goal.overflow_sub-result
overflow_sub-result c = leb→le _ _ (at (λ i. leb (689 * i) (31850 + 3 * (i * i))) 64 tt c.args.i c.requires)

pub returns : goal.returns
unfolding first_digit
returns c = refl

-- `power::digit` meets its contract. Assumes nothing.
use Rattle.power.specs.Steps.{digit_of}
use Rattle.power.proofs.digit.Goals as goal
use mathlib.Core.Path.{refl}

pub returns : goal.returns
unfolding digit_of
returns c = refl

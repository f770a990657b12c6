-- `power::times` meets its contract. Assumes nothing.
use Rattle.power.specs.Steps.{times_of}
use Rattle.power.proofs.times.Goals as goal

pub returns : goal.returns
unfolding times_of
returns c = rw c.high.ensures

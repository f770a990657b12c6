-- `power::Climb::step` meets its contract. Assumes nothing.
use Rattle.power.specs.Steps.{climbed_of, step_of}
use Rattle.power.proofs.Climb.step.Goals as goal

pub returns : goal.returns
unfolding step_of climbed_of
returns c = rw (c.times.ensures, c.digit-c.ensures)

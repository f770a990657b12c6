-- `speed::trial` meets its contract. Assumes nothing.
use Rattle.speed.specs.Speeds.{trial_of}
use Rattle.speed.proofs.Trials.{trial_parted, trial_moderate}
use Rattle.speed.proofs.trial.Goals as goal

pub speed_from-requires : goal.speed_from-requires
speed_from-requires c = rw (c.exactly.ensures, c.exactly-2.ensures) (trial_parted c.requires.0, trial_moderate c.requires.1.least c.requires.3 c.requires.2)

pub returns : goal.returns
unfolding trial_of
returns c = rw (c.speed_from.ensures, c.exactly.ensures, c.exactly-2.ensures)

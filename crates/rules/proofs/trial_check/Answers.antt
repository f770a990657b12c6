-- `rules::trial_check` meets its contract.
-- Assumes nothing.
use Rattle.ship.proofs.Right.{early}
use Rattle.rules.proofs.trial_check.Goals as goal

pub trial_broken-requires : goal.trial_broken-requires
trial_broken-requires c =
    let p = early c.args.s.now c.requires in
    (p.kind, p.deadweight, p.engines)

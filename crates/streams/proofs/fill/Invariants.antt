-- `streams::fill` meets its contract.
-- Assumes nothing.
use Rattle.std.proofs.Common.{◌≤◌, length}
use Rattle.streams.proofs.Reading.{steps_left}
use Rattle.streams.proofs.fill.Given as goal

abbrev pub invariant-loop-got : goal.invariant-loop-got
invariant-loop-got l = l.got.count ≤ length l.blocks

abbrev pub decreases-loop-got : goal.decreases-loop-got
decreases-loop-got l = steps_left (length l.blocks) l.got

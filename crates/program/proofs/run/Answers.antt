-- `program::run` ends: each batch begins further on than the one before, and below 65,536; and where the last one ends.
-- Assumes nothing.
use native.Mathlib.Omega.{arith}
use Rattle.batches.proofs.Batches.{next_is}
use Rattle.program.proofs.Joined.{ended_step}
use Rattle.program.proofs.run.Goals as goal

pub loop-next-smaller : goal.loop-next-smaller
loop-next-smaller g c = omega (arith, next_is _ _ c.in-Continue.ensures, c.loop-next.batch.begun.below)

pub returns-in-Break : goal.returns-in-Break
returns-in-Break g c = ended_step _ _ c.loop-next.batch.begun c.in-Break.ensures

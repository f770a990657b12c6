-- `program::run` ends: each batch begins further on than the one before, and below 65,536.
-- Assumes nothing.
use Prim.Native.Nat.{◌-◌}
use Rattle.program.proofs.run.Given as goal

abbrev pub decreases-loop-next : goal.decreases-loop-next
decreases-loop-next g l = 65536 - l.batch.first

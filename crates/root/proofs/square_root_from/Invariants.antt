-- `root::square_root_from` meets its contract: r never falls below the root, and where it isn't above it, it is the root. Assumes nothing.
use Prim.Native.Nat.{◌+◌, ◌^◌, ◌<◌}
use Rattle.root.proofs.square_root_from.Given as goal

abbrev pub invariant-loop-r : goal.invariant-loop-r
invariant-loop-r l = (l.r < 2 ^ 32) × (l.n < (l.r + 1) ^ 2)

abbrev pub decreases-loop-r : goal.decreases-loop-r
decreases-loop-r l = l.r

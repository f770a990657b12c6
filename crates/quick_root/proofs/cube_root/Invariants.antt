-- `quick_root::cube_root` meets its contract: r never falls below the root, and where it isn't above it, it is the root. Assumes nothing.
use Prim.Native.Nat.{◌+◌, ◌^◌, ◌≤◌, ◌<◌}
use Rattle.quick_root.proofs.cube_root.Given as goal

abbrev pub invariant-loop-r : goal.invariant-loop-r
invariant-loop-r l = (l.n < (l.r + 1) ^ 3) × (l.r ≤ 2642245)

abbrev pub decreases-loop-r : goal.decreases-loop-r
decreases-loop-r l = l.r

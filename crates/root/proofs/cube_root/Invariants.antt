-- `root::cube_root` meets its contract: the root stands from r up to r + w, and w is halved until it is 1. Assumes nothing.
use Prim.Native.Nat.{◌^◌}
use Rattle.root.proofs.Roots.{Stands}
use Rattle.root.proofs.cube_root.Given as goal

abbrev pub invariant-loop-w : goal.invariant-loop-w
invariant-loop-w l = Stands 3 (2 ^ 22) l.n l.r l.w

abbrev pub decreases-loop-w : goal.decreases-loop-w
decreases-loop-w l = l.w

-- `root::cube_root` meets its contract: the root stands from r up to r + w, and w is halved until it is 1. Assumes nothing.
use Rattle.std.proofs.Common.{◌^◌, sym, ◌∙◌, arith, lit≤}
use Rattle.root.proofs.Roots.{upper_half, root_below}
use Rattle.root.proofs.cube_root.Goals as goal

pub overflow_add-r : goal.overflow_add-r
overflow_add-r c = omega (arith, root_below 3 (2 ^ 22) (2 ^ 64) (lit≤ tt) c.ranges.n.fits c.loop-w.invariant.low)

pub overflow_add-r-then-cube_at_most : goal.overflow_add-r-then-cube_at_most
overflow_add-r-then-cube_at_most c = omega (arith, root_below 3 (2 ^ 22) (2 ^ 64) (lit≤ tt) c.ranges.n.fits c.loop-w.invariant.low)

pub loop-w-preserved-then-cube_at_most : goal.loop-w-preserved-then-cube_at_most
loop-w-preserved-then-cube_at_most c =
    upper_half c.loop-w.invariant (omega arith) (omega arith) (omega arith) (sym c.cube_at_most.ensures ∙ c.if-cube_at_most.true)

-- `quick_root::cube_root` meets its contract: r never falls below the root, and where it isn't above it, it is the root. Assumes nothing.
use Prim.Native.Nat.{ℕ, ◌+◌, ◌*◌, ◌/◌, ◌^◌, ◌<◌}
use native.Mathlib.Nat.{mul-pos, lt-div-mul-add}
use native.Mathlib.Omega.{arith}
use Rattle.formula.proofs.Wholes.{square, cube}
use Rattle.root.proofs.Newton.{newton, above_root, part_below}
use Rattle.quick_root.proofs.Starts.{start_above}
use Rattle.quick_root.proofs.cube_root.Goals as goal

square_some : (n r : ℕ) → n < r * r * r → 0 < r * r
square_some n r h =
    let some = above_root n r (r * r) h in
    mul-pos some some

quotient : (n r : ℕ) → 0 < r * r → n < (n / (r * r) + 1) * r ^ 2
quotient n r some = rw (square r) (omega (arith, lt-div-mul-add {a = n} some))

falls : (n r : ℕ) → n < r * r * r → n / (r * r) < r
falls n r h = part_below n r (r * r) (square_some n r h) h

pub loop-r-init : goal.loop-r-init
loop-r-init c = start_above c.ranges.n.fits c.start-r.ensures

pub loop-r-preserved : goal.loop-r-preserved
loop-r-preserved c =
    let above = c.loop-r-test.true in
    (newton 2 _ _ _ _ (quotient _ _ (square_some _ _ above)) (omega arith), omega (arith, falls _ _ above, c.loop-r.invariant.1))

pub returns : goal.returns
returns c = record { at_most = rw (cube _) c.loop-r-test.false; next_above = c.loop-r.invariant.0 }

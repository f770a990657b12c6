-- `root::cube_at_most` meets its contract. Assumes nothing.
use Rattle.std.proofs.Common.{sym, ◌∙◌}
use native.Mathlib.Nat.{lt_of_lt_of_le, le_trans, pow-le-pow_left}
use lib.Dec.{lit≤}
use borrow.Author.Tests.{lt-leb}
use Rattle.formula.proofs.Wholes.{cube}
use Rattle.root.proofs.cube_at_most.Goals as goal

pub returns-then-t-le-LARGEST : goal.returns-then-t-le-LARGEST
returns-then-t-le-LARGEST c = rw cube

pub returns-else-t-le-LARGEST : goal.returns-else-t-le-LARGEST
returns-else-t-le-LARGEST c =
    let high = c.if-t-le-LARGEST.false in
    lt-leb _ _ high ∙ sym (lt-leb _ _ (lt_of_lt_of_le c.ranges.n.fits (le_trans (lit≤ tt) (pow-le-pow_left high 3))))

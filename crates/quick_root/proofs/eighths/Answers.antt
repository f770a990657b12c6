-- `quick_root::eighths` meets its contract. Assumes nothing.
use Rattle.std.proofs.lemmas.Nat.{leading_length}
use Rattle.quick_root.proofs.Starts.{counted}
use Rattle.quick_root.proofs.eighths.Goals as goal

pub returns : goal.returns
returns c =
    let at = c in
    let t = leading_length 64 at.args.n at.ranges.n.fits in
    rw c.saturating_sub.ensures (counted _ t.0 t.1 t.2 t.3)

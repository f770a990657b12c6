-- `quick_root::start` meets its contract. Assumes nothing.
use native.Mathlib.Omega.{arith}
use Rattle.quick_root.proofs.Starts.{times_few, entry_number, started}
use Rattle.quick_root.proofs.start.Goals as goal

pub overflow_mul-k : goal.overflow_mul-k
overflow_mul-k c = omega (arith, times_few c.ranges.n.fits c.eighths-k.ensures)

pub overflow_shr-n : goal.overflow_shr-n
overflow_shr-n c = omega (arith, times_few c.ranges.n.fits c.eighths-k.ensures)

pub overflow_add-n : goal.overflow_add-n
overflow_add-n c = omega (arith, entry_number c.eighths-k.ensures)

pub entry-entry-requires : goal.entry-entry-requires
entry-entry-requires c = omega (arith, entry_number c.eighths-k.ensures)

pub overflow_shl-entry : goal.overflow_shl-entry
overflow_shl-entry c = omega (arith, times_few c.ranges.n.fits c.eighths-k.ensures)

pub returns : goal.returns
returns c =
    let at = c in
    started at.ranges.n.fits at.eighths-k.ensures at.entry-entry.ensures _ c.min.ensures

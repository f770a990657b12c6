-- `fields::put_run` meets its contract.
-- Assumes nothing.
use Rattle.std.proofs.Common.{◌+◌, ◌-◌, get_or, arith}
use borrow.Rule.Slice.PartMut.{same_len_mid}
use Rattle.fields.proofs.Runs.{total_drop, run_again, run_end}
use Rattle.fields.proofs.put_run.Goals as goal

pub overflow_add-end : goal.overflow_add-end
overflow_add-end c = omega (arith, total_drop c.args.fields.now c.loop-width.width-index (omega arith))

pub slice_bounds-put-end : goal.slice_bounds-put-end
slice_bounds-put-end c = omega (arith, total_drop c.args.fields.now c.loop-width.width-index (omega arith))

pub loop-width-preserved : goal.loop-width-preserved
loop-width-preserved c =
    let fs = c.args.fields.now in
    let l = c.loop-width in
    let w = (get_or fs l.width-index (0, 0)).0 in
    let t = total_drop fs l.width-index (omega arith) in
    let same = same_len_mid l.at (l.at + w - l.at) l.part c.put.new.bytes c.put.auto.bytes in
    (omega arith, run_again fs l.part l.at l.width-index l.invariant.1 _ (omega arith) (omega arith) c.put.ensures)

pub returns : goal.returns
returns c =
    let l = c.loop-width in
    run_end c.args.fields.now l.part l.at l.width-index l.invariant.1 (omega arith) l.invariant.0

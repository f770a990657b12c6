-- `program::put_batch` meets its contract: 128 lines of 126 bytes have room.
-- Assumes nothing.
use Prim.Native.Nat.{ℕ, ◌≤◌}
use mathlib.Core.Path.{sym, ap, ◌∙◌}
use native.Mathlib.Omega.{arith}
use lib.ListN.{length, take}
use lib.Seq.{length-take-le}
use Rattle.streams.proofs.Reading.{answered_within}
use Rattle.lines.specs.Lines.{lines_of}
use Rattle.lines.proofs.Files.{lines_front}
use Rattle.program.proofs.put_batch.Goals as goal

pub slice_bounds-put_lines-end : goal.slice_bounds-put_lines-end
slice_bounds-put_lines-end g c =
    let w = answered_within c.args.got in
    sym (length-take-le _ _ (omega (arith, c.answered-answered.ensures, c.requires.blocks_len.1.within)))

pub returns-clause-end_in_bounds : goal.returns-clause-end_in_bounds
returns-clause-end_in_bounds g c =
    let put = c.put_lines in
    let h : put.result ≤ length put.new.out = omega (arith, put.ensures.place, put.ensures.room, put.auto.out) in
    (h, sym (length-take-le _ _ h))

pub returns-clause-text_after : goal.returns-clause-text_after
returns-clause-text_after g c =
    let a = c.args in
    let w = answered_within a.got in
    let m : c.answered-answered.result ≤ 65536 = omega (arith, c.answered-answered.ensures, c.requires.blocks_len.1.within) in
    let n = length-take-le c.answered-answered.result a.blocks.now (omega (arith, c.requires.blocks_len.0)) in
    lines_front g.Q.Question.line 126 a.batch.first _ (omega arith) c.put_lines.ensures
    ∙ ap (λ (k : ℕ). lines_of g.Q.Question.line a.batch.first (take k a.blocks.now)) c.answered-answered.ensures

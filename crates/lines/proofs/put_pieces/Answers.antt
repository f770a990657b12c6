-- `lines::put_pieces` meets its contract.
-- Assumes nothing.
use Rattle.std.proofs.Common.{◌≡◌, ◌<◌, ◌+◌, ◌++◌, ◌*◌, drop, length, refl, sym, ap, subst, ◌∙◌, inl, arith}
use Rattle.std.specs.Prelude.{min}
use Rattle.std.specs.Iterator.Adapters.{enumerate_source, enumerate_count}
use Rattle.std.specs.Slice.Iter.{chunks_rest, chunks_size}
use Rattle.decimal.specs.Digits.{Put}
use Rattle.lines.proofs.Files.{PutTo, piece_is, rest_is, count_fits, put_to_none, has_room, put_more}
use Rattle.lines.proofs.put_pieces.Goals as goal

pub loop-i-init : goal.loop-i-init
loop-i-init g c =
    let q = g.Q.Question in
    let a = c.args in
    let it = c.into_iter-i-iterator.result in
    let same = c.into_iter-i-iterator.ensures.into_iter_gives in
    let source : enumerate_source it ≡ c.chunks.result = ap enumerate_source same ∙ c.enumerate-i-items.ensures.source in
    let none : enumerate_count it ≡ 0 = ap enumerate_count same ∙ c.enumerate-i-items.ensures.count in
    let size : chunks_size (enumerate_source it) ≡ 512 = ap chunks_size source ∙ c.chunks.ensures.size in
    let rest : chunks_rest (enumerate_source it) ≡ drop (enumerate_count it * 512) a.bytes.now = ap chunks_rest source ∙ c.chunks.ensures.rest ∙ rw none refl in (
      (omega arith, tt, inl (count_fits a.bytes.now _ _ _ rest (omega arith) (omega arith))),
      tt,
      size,
      rest,
      subst (λ k. PutTo q.line q.LONGEST a.first a.bytes.now a.out.now a.out.now k 0) (sym none) (put_to_none q.line q.LONGEST a.first a.bytes.now a.out.now),
    )

pub put_line-end-requires : goal.put_line-end-requires
put_line-end-requires g c =
    let it = c.loop-i.invariant in
    let some : 0 < length (drop (enumerate_count c.loop-i.i-iterator * 512) c.args.bytes.now) = rw it.3 at c.in-Some.ensures.steps.0.1.2 in
    has_room g.Q.Question.line it.4 some c.requires

pub loop-i-preserved : goal.loop-i-preserved
loop-i-preserved g c =
    let q = g.Q.Question in
    let a = c.args in
    let it = c.loop-i.invariant in
    let i = enumerate_count c.loop-i.i-iterator in
    let steps = c.in-Some.ensures.steps in
    let chunk = c.in-Some.block.now in
    let next = c.next.new.self in
    let line = c.put_line-end.ensures in
    let some : 0 < length (drop (i * 512) a.bytes.now) = rw it.3 at steps.0.1.2 in
    let parts : drop (i * 512) a.bytes.now ≡ chunk ++ chunks_rest (enumerate_source next) = sym it.3 ∙ steps.0.1.0 in
    let len : length chunk ≡ min 512 (length (drop (i * 512) a.bytes.now)) = rw (it.2, it.3) at steps.0.1.1 in
    let one : enumerate_count next ≡ i + 1 = steps.2 in
    let size : chunks_size (enumerate_source next) ≡ 512 = steps.0.0 ∙ it.2 in
    let rest : chunks_rest (enumerate_source next) ≡ drop (enumerate_count next * 512) a.bytes.now
    = rest_is a.bytes.now chunk _ i parts len ∙ ap (λ k. drop (k * 512) a.bytes.now) (sym one) in
    let put = subst (λ k. Put c.loop-i.out c.loop-i.end (q.line (c.from.result + k) chunk) c.put_line-end.new.out c.put_line-end.result) steps.1 line.put in
    let more = put_more q.line it.4 some (piece_is a.bytes.now chunk _ i parts len) c.put_line-end.auto.out line.upper_bound (subst (λ f. Put c.loop-i.out c.loop-i.end (q.line (f + i) chunk) c.put_line-end.new.out c.put_line-end.result) c.from.ensures put) in (
      (omega arith, tt, inl (count_fits a.bytes.now _ _ _ rest (omega (arith, more.within)) (omega arith))),
      tt,
      size,
      rest,
      subst (λ k. PutTo q.line q.LONGEST a.first a.bytes.now a.out.now c.put_line-end.new.out k c.put_line-end.result) (sym one) more,
    )

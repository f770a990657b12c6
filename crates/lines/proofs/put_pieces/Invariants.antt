-- `lines::put_pieces` meets its contract: what is left begins with the next piece.
-- Assumes nothing.
use Rattle.std.proofs.Common.{◌≡◌, ◌*◌, drop}
use Rattle.std.specs.Iterator.Adapters.{enumerate_source, enumerate_count}
use Rattle.std.specs.Slice.Iter.{chunks_rest, chunks_size}
use Rattle.lines.proofs.Files.{PutTo}
use Rattle.lines.proofs.put_pieces.Given as goal

abbrev pub invariant-loop-i : goal.invariant-loop-i
invariant-loop-i g l =
    let q = g.Q.Question in
    let it = l.i-iterator in
    (goal.iterator-loop-i g).can_next it
    × (goal.iterator-loop-i g).is_finite it
    × (chunks_size (enumerate_source it) ≡ 512)
    × (chunks_rest (enumerate_source it) ≡ drop (enumerate_count it * 512) l.bytes)
    × PutTo q.line q.LONGEST l.first l.bytes l.initial.out l.out (enumerate_count it) l.end

-- `line::put_numbers` meets its contract.
-- Assumes nothing.
use Rattle.std.proofs.Common.{ℕ, ◌+◌, ◌<◌, ◌≡◌, List, ◌++◌, length, drop, get_or, drop-cons, add-one, arith}
use Rattle.decimal.proofs.Putting.{put_put}
use Rattle.line.specs.Line.{spaced, numbers_line}
use Rattle.line.proofs.put_numbers.Goals as goal

-- The number at k stands first of those that are left.
one_more : (ns : List ℕ) (k last : ℕ) → k < length ns → numbers_line (drop k ns) last ≡ spaced (get_or ns k 0) ++ numbers_line (drop (k + 1) ns) last
one_more ns k last h = rw (add-one, drop-cons ns k 0)

pub loop-n-preserved : goal.loop-n-preserved
loop-n-preserved c = record {
  room = omega arith;
  put = λ after end p. c.loop-n.invariant.put after end (rw (one_more c.args.before.now c.loop-n.n-index c.args.last (omega arith)) (put_put c.put_number-end.ensures.put p));
}

-- `line::put_numbers` meets its contract: with what is left of the line put behind `end`, all of it stands.
-- Assumes nothing.
use Rattle.std.proofs.Common.{ℕ, ◌+◌, ◌*◌, ◌≤◌, List, drop}
use Rattle.decimal.specs.Digits.{Put}
use Rattle.line.specs.Line.{numbers_line}
use Rattle.line.proofs.put_numbers.Given as goal

abbrev pub invariant-loop-n : goal.invariant-loop-n
invariant-loop-n l = record {
  room : l.end ≤ l.at + 21 * l.n-index;
  put : (after : List ℕ) (end : ℕ) → Put l.out l.end (numbers_line (drop l.n-index l.before) l.last) after end
      → Put l.fn.out l.at (numbers_line l.before l.last) after end;
}

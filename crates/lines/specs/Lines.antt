-- The lines of a file, whatever is asked; and the index's. A line depends only on its number and that block's bytes.
-- Assumes nothing.
use Rattle.std.specs.Prelude.{ℕ, zero, suc, ◌+◌, ◌*◌, ◌/◌, List, [], ◌++◌, leb, length, take, drop, Ok, Err}
use Rattle.formula.specs.Words.{if}
use Rattle.fields.specs.Numbers.{number_at}
use Rattle.ship.specs.Refusals.{number_of}
use Rattle.desk.specs.Answers.{Answer, answer_of_block}
use Rattle.line.specs.Line.{bounds_line, refusal_line}

abbrev pub line_by : ℕ → ℕ → Answer → List ℕ
line_by n imo (Ok i) = bounds_line n imo i.lower i.upper
line_by n imo (Err r) = refusal_line n (number_of r)

-- The line of block n, of its index; the IMO number stands in bytes 4–7.
unfoldable pub line_of : ℕ → List ℕ → List ℕ
line_of n b = line_by n (number_at b 4 4) (answer_of_block b)

-- ── Of a file ───────────────────────────────────────────────────────────────────────────────

-- Piece i of a file is its 512 bytes from i × 512 on; the last may be short.
abbrev pub piece : ℕ → List ℕ → List ℕ
piece i b = take 512 (drop (i * 512) b)

abbrev pub pieces : List ℕ → ℕ
pieces b = (length b + 511) / 512

-- The lines of a file's first k pieces, the first of which is block n, where `line` has the line of a block.
unfoldable pub lines_to : (ℕ → List ℕ → List ℕ) → ℕ → List ℕ → ℕ → List ℕ
lines_to line n b zero = []
lines_to line n b (suc k) = lines_to line n b k ++ line (n + k) (piece k b)

unfoldable pub lines_of : (ℕ → List ℕ → List ℕ) → ℕ → List ℕ → List ℕ
lines_of line n b = lines_to line n b (pieces b)

-- The same where the buffer has the longest line's bytes, 84 for the index, for each of them; otherwise nothing.
unfoldable pub lines_within : ℕ → List ℕ → (ℕ → List ℕ → List ℕ) → ℕ → List ℕ → List ℕ
lines_within longest out line n b = if (leb (pieces b * longest) (length out)) (lines_of line n b) []

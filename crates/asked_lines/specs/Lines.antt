-- The speed's line. It depends only on its number and that block's bytes.
-- Assumes nothing.
use Rattle.std.specs.Prelude.{ℕ, List, Ok, Err}
use Rattle.fields.specs.Numbers.{number_at}
use Rattle.ship.specs.Refusals.{number_of}
use Rattle.desk.specs.Steps.{SpeedAnswer, speeds_answer_of_block}
use Rattle.line.specs.Line.{speeds_line, refusal_line}

abbrev pub speed_line : ℕ → ℕ → SpeedAnswer → List ℕ
speed_line n imo (Ok v) = speeds_line n imo v.most.lo v.most.hi v.least.lo v.least.hi
speed_line n imo (Err r) = refusal_line n (number_of r)

-- The line of block n, of its speed; the IMO number stands in bytes 4–7.
unfoldable pub speed_line_of : ℕ → List ℕ → List ℕ
speed_line_of n b = speed_line n (number_at b 4 4) (speeds_answer_of_block b)

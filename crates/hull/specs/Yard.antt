-- What the yard's design program finds for each of the desk's answers.
-- Assumes nothing.
use Rattle.std.specs.Prelude.{false, List, ℕ, pos, Float}
use Rattle.std.specs.Float.{fin, binary64}
use Rattle.std.specs.Float.Ieee.{of_int}
use Rattle.std.specs.Float.Ieee.Exact.{HasValue}
use Rattle.desk.specs.Answers.{Answer, answer_of_block, number_in, lower_in, upper_in}
use Rattle.hull.specs.declared.Pair.{Pair}
use Rattle.hull.specs.declared.Found.{Found}

-- A double is exactly the whole number n: finite, with no minus, and n over 1 in size.
unfoldable pub Exactly : Float → ℕ → Type 0
Exactly x n = HasValue x false n 1

-- The double of a whole number by IEEE 754, the nearest there is.
unfoldable pub as_double : ℕ → Float
as_double n = of_int binary64 (pos n)

abbrev pub doubles_of : (lower upper : ℕ) → Pair
doubles_of lower upper = record { lower = as_double lower; upper = as_double upper }

abbrev pub found_of : (refusal lower upper : ℕ) → Found
found_of refusal lower upper = record { refusal = refusal; lower = lower; upper = upper; pair = doubles_of lower upper }

-- The whole answer, and that to bytes.
abbrev pub found_in : Answer → Found
found_in a = found_of (number_in a) (lower_in a) (upper_in a)

abbrev pub found : List ℕ → Found
found b = found_in (answer_of_block b)

-- The empty pair: two zeros, neither of them negative.
abbrev pub zero_double : Float
zero_double = fin false 0 (pos 0)

abbrev pub empty_pair : Pair
empty_pair = record { lower = zero_double; upper = zero_double }

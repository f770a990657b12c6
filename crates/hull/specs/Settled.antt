-- What the yard's design program finds in two steps: the speed by itself, and the index from a block and speed bounds.
-- Assumes nothing.
use Rattle.std.specs.Prelude.{List, ℕ}
use Rattle.power.specs.declared.Bounds.{Bounds}
use Rattle.index.specs.declared.SpeedBounds.{SpeedBounds}
use Rattle.desk.specs.Answers.{number_in}
use Rattle.desk.specs.Steps.{SpeedAnswer, speeds_answer_of_block, index_answer_of_block, speeds_in}
use Rattle.hull.specs.Yard.{found_in}
use Rattle.hull.specs.declared.Found.{Found}
use Rattle.hull.specs.declared.Knots.{Knots}
use Rattle.hull.specs.declared.FoundSpeeds.{FoundSpeeds}

abbrev pub knots_of : Bounds → Knots
knots_of v = record { lower = v.lo; upper = v.hi }

abbrev pub found_speeds_of : (refusal : ℕ) → SpeedBounds → FoundSpeeds
found_speeds_of refusal v = record { refusal = refusal; most = knots_of v.most; least = knots_of v.least }

abbrev pub found_speeds_in : SpeedAnswer → FoundSpeeds
found_speeds_in a = found_speeds_of (number_in a) (speeds_in a)

-- The two pairs that are handed in, as the desk takes them.
abbrev pub bounds_of : Knots → Bounds
bounds_of v = record { lo = v.lower; hi = v.upper }

abbrev pub handed : Knots → Knots → SpeedBounds
handed most least = record { most = bounds_of most; least = bounds_of least }

-- The whole answers to bytes.
abbrev pub found_speeds : List ℕ → FoundSpeeds
found_speeds b = found_speeds_in (speeds_answer_of_block b)

abbrev pub found_index : List ℕ → Knots → Knots → Found
found_index b most least = found_in (index_answer_of_block b (handed most least))

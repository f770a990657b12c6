-- A line of a program, of its numbers.
-- Assumes nothing.
use Rattle.std.specs.Prelude.{ℕ, List, [], ◌∷◌, ◌++◌}
use Rattle.decimal.specs.Digits.{decimal}

-- A number and the space after it; a number and the end of the line.
abbrev pub spaced : ℕ → List ℕ
spaced n = decimal n ++ (32 ∷ [])

abbrev pub ended : ℕ → List ℕ
ended n = decimal n ++ (10 ∷ [])

-- Numbers, a space behind each, and then the last one.
abbrev pub numbers_line : List ℕ → ℕ → List ℕ
numbers_line [] last = ended last
numbers_line (n ∷ ns) last = spaced n ++ numbers_line ns last

-- `refused` and a space, in ASCII.
abbrev pub refused_word : List ℕ
refused_word = 114 ∷ 101 ∷ 102 ∷ 117 ∷ 115 ∷ 101 ∷ 100 ∷ 32 ∷ []

-- Number, IMO number, lower, upper.
abbrev pub bounds_line : ℕ → ℕ → ℕ → ℕ → List ℕ
bounds_line n imo lower upper = spaced n ++ (spaced imo ++ (spaced lower ++ ended upper))

-- Number, `refused`, refusal number.
abbrev pub refusal_line : ℕ → ℕ → List ℕ
refusal_line n r = spaced n ++ (refused_word ++ ended r)

-- Number, IMO number, lower and upper of the most favourable ship, floor and ceiling of the least favourable.
abbrev pub speeds_line : ℕ → ℕ → ℕ → ℕ → ℕ → ℕ → List ℕ
speeds_line n imo lower upper floor ceiling =
    spaced n ++ (spaced imo ++ (spaced lower ++ (spaced upper ++ (spaced floor ++ ended ceiling))))

-- Runs of fields: each a width and a number.
-- Assumes nothing.
use Rattle.std.specs.Prelude.{ℕ, ◌+◌, List, [], ◌∷◌, ◌++◌, map}
use Rattle.fields.specs.Numbers.{bytes_of, number_at}

-- The bytes of the numbers, each at its width, one after the other.
unfoldable pub pack : List ℕ → List ℕ → List ℕ
pack [] vs = []
pack (w ∷ ws) [] = []
pack (w ∷ ws) (v ∷ vs) = bytes_of w v ++ pack ws vs

-- The numbers that stand in a run of fields from at.
unfoldable pub numbers_at : List ℕ → ℕ → List ℕ → List ℕ
numbers_at b at [] = []
numbers_at b at (w ∷ ws) = number_at b at w ∷ numbers_at b (at + w) ws

abbrev pub total : List ℕ → ℕ
total [] = 0
total (w ∷ ws) = w + total ws

-- A run as a list of pairs, its widths, its numbers, and its bytes.
abbrev pub widths_of : List (ℕ × ℕ) → List ℕ
widths_of = map (λ (f : ℕ × ℕ). f.0)

abbrev pub numbers_of : List (ℕ × ℕ) → List ℕ
numbers_of = map (λ (f : ℕ × ℕ). f.1)

abbrev pub packed : List (ℕ × ℕ) → List ℕ
packed fs = pack (widths_of fs) (numbers_of fs)

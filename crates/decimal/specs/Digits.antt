-- A number in decimal digits, as bytes, and bytes put into a lent buffer.
-- Assumes nothing.
use Rattle.std.specs.Prelude.{ℕ, zero, suc, ◌+◌, ◌/◌, ◌%◌, ◌≤◌, ◌≡◌, List, [], ◌∷◌, ◌++◌, ltb, length, take, drop}
use Rattle.formula.specs.Words.{if}

-- The byte of a digit: 0 is 48 in ASCII.
abbrev pub digit : ℕ → ℕ
digit d = 48 + d

-- A number below 10 is its digit; any other is the digits of its tenth, and then its last digit. The first argument only
-- bounds the steps.
unfoldable pub spelled : ℕ → ℕ → List ℕ
spelled zero n = digit n ∷ []
spelled (suc steps) n = if (ltb n 10) (digit n ∷ []) (spelled steps (n / 10) ++ (digit (n % 10) ∷ []))

-- The digits, most significant first.
unfoldable pub decimal : ℕ → List ℕ
decimal n = spelled n n

-- The bytes from `at` on become xs, every other byte stays.
abbrev pub over : List ℕ → ℕ → List ℕ → List ℕ
over out at xs = take at out ++ (xs ++ drop (at + length xs) out)

-- xs is put into out from `at` on, and `end` is the place after it.
pub record Put (out : List ℕ) (at : ℕ) (xs : List ℕ) (after : List ℕ) (end : ℕ) : Type 0 where
  pub bytes : after ≡ over out at xs
  pub place : end ≡ at + length xs
  pub room : at + length xs ≤ length out

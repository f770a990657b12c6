-- What reading a block and writing into a file answer, and what each lent byte then is.
-- Assumes nothing.
use Rattle.std.specs.Prelude.{ℕ, ◌+◌, ◌*◌, List, [], ◌∷◌, ◌++◌, Bool, false, ◌||◌, not, length, get_or, take, drop, eqb, ltb, Option, None, Some, is_none, Result, Ok, Err}
use Rattle.formula.specs.Words.{if}
use Rattle.fields.specs.Numbers.{number_at}
use Rattle.fields.specs.Checks.{sums}
use Rattle.ship.specs.Refusals.{first_of}
use Rattle.ship.specs.Rules.{nonzero, tests}
use Rattle.ship.specs.declared.Ship.{Ship}
use Rattle.ship.specs.declared.Refusal.{Refusal}
use Rattle.ship.specs.declared.Refusal.TheVariants.{Length, Check, NoBlock}
use Rattle.layout.specs.Layout.{encode, numbers_in, ship_in}

-- ── Reading ─────────────────────────────────────────────────────────────────────────────────

-- 1: not 512 bytes.
abbrev pub length_refused : List ℕ → Bool
length_refused b = not (eqb (length b) 512)

-- 2: check differs: A of bytes 0–507 stands in 508–509, B in 510–511.
unfoldable pub check_refused : List ℕ → Bool
check_refused b = not (eqb (number_at b 508 2) (sums 1 0 (take 508 b)).a) || not (eqb (number_at b 510 2) (sums 1 0 (take 508 b)).b)

-- Bytes 142–143 and 188–507, which no field has yet.
abbrev pub rest_refused : List ℕ → Bool
rest_refused ns = nonzero (get_or ns 56 0) || nonzero (get_or ns 76 0)

-- 16: a byte that must be zero isn't: one of 49–51, of the last two of an engine entry, of 142–143, or of 188–507.
unfoldable pub zeros_refused : List ℕ → Bool
zeros_refused b =
    let n = get_or (numbers_in b) in
    nonzero (n 19 0) || nonzero (n 27 0) || nonzero (n 35 0) || nonzero (n 43 0) || nonzero (n 51 0) || rest_refused (numbers_in b)

-- The tests of 512 bytes with the record s, in order of checking.
unfoldable pub block_tests : List ℕ → Ship → List (Bool × Refusal)
block_tests b s = (check_refused b, Check) ∷ tests (zeros_refused b) s

-- The first refusal of bytes, or none.
unfoldable pub read_refusal : List ℕ → Option Refusal
read_refusal b = first_of ((length_refused b, Length) ∷ block_tests b (ship_in b)) None

-- A value, unless there is a refusal.
abbrev pub unless : {A : Type 0} → Option Refusal → A → Result A Refusal
unless None a = Ok a
unless (Some r) a = Err r

-- The record of an accepted block, or the refusal alone.
unfoldable pub read_of : List ℕ → Result Ship Refusal
read_of b = unless (read_refusal b) (ship_in b)

-- ── Writing ─────────────────────────────────────────────────────────────────────────────────

-- 17: the lent buffer has no whole block of that number.
abbrev pub no_block : List ℕ → ℕ → Bool
no_block f n = ltb (length f) (n * 512 + 512)

-- The record's own refusal, then 17.
unfoldable pub write_refusal : List ℕ → ℕ → Ship → Option Refusal
write_refusal f n s = first_of (tests false s ++ ((no_block f n, NoBlock) ∷ [])) None

-- The file with the ship in its block, every other byte as it stood; on refusal as it stood.
unfoldable pub write_of : List ℕ → ℕ → Ship → List ℕ
write_of f n s = if (is_none (write_refusal f n s)) (take (n * 512) f ++ encode s ++ drop (n * 512 + 512) f) f

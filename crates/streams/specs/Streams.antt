-- What comes of reading standard input and of writing standard output, and what is then said.
-- Assumes nothing.
use Rattle.std.specs.Prelude.{ℕ, ◌+◌, ◌-◌, ◌*◌, ◌/◌, ◌≤◌, ◌≡◌, Bool, true, false, List, [], ◌∷◌, ◌++◌, eqb, ℤ, pos, negsuc, Option, Some, None, Result, Ok, Err, IfOk}
use Prim.Native.Char.{code}
use Prim.Native.String.{String, [] as ended, ◌∷◌ as ◌then◌}
use Rattle.std.specs.declared.io.Error.{Error}
use Rattle.std.specs.IoError.{raw_os_error}
use Rattle.formula.specs.Words.{if}
use Rattle.streams.specs.declared.Got.{Got}
use Rattle.streams.specs.declared.Rest.{Rest}
use Rattle.streams.specs.declared.Rest.TheVariants.{More, End, Failure}
use Rattle.streams.specs.declared.Unsent.{Unsent}
use Rattle.streams.specs.declared.Unsent.TheVariants.{Closed, Failed}

-- ── Reading ─────────────────────────────────────────────────────────────────────────────────

abbrev pub nothing_yet : Got
nothing_yet = record { count = 0; rest = More }

-- After one read more: it answers how many bytes came, 0 where the input has ended, or it failed and brought none.
abbrev pub got_after : Got → Result ℕ Error → Got
got_after g (Ok n) = record { count = g.count + n; rest = if (eqb n 0) End More }
got_after g (Err e) = record { count = g.count; rest = Failure }

-- g and one read more into the rest of a buffer of n bytes, whatever it answered, make r.
pub record ReadOn (n : ℕ) (g r : Got) : Type 0 where
  pub answer : Result ℕ Error
  pub room : IfOk answer (λ count. count ≤ n - g.count)
  pub after : r ≡ got_after g answer

-- Whether more may come.
abbrev pub is_more : Rest → Bool
is_more More = true
is_more End = false
is_more Failure = false

abbrev pub is_going : Got → Bool
is_going g = is_more g.rest

-- What was read into a buffer of n bytes: no more than it holds; more may come only behind a full one.
pub record Filled (n : ℕ) (g : Got) : Type 0 where
  pub within : g.count ≤ n
  pub full : g.rest ≡ More → g.count ≡ n

-- How many of its bytes are answered: all, the piece of a block at the end of the input too. Where a read failed that piece is no end
-- of a file, and whole blocks alone are answered.
abbrev pub answered_before : Rest → ℕ → ℕ
answered_before Failure count = count / 512 * 512
answered_before More count = count
answered_before End count = count

unfoldable pub answered_of : Got → ℕ
answered_of g = answered_before g.rest g.count

-- ── Writing ─────────────────────────────────────────────────────────────────────────────────

-- errno 32, EPIPE: nobody reads the pipe any more.
abbrev pub no_reader : Option ℤ → Bool
no_reader (Some (pos e)) = eqb e 32
no_reader (Some (negsuc e)) = false
no_reader None = false

abbrev pub unsent : Error → Unsent
unsent error = if (no_reader (raw_os_error error)) Closed Failed

abbrev pub sent_after : Result (Unit {0}) Error → Result (Unit {0}) Unsent
sent_after (Ok all) = Ok all
sent_after (Err error) = Err (unsent error)

-- What came of one write, whatever it answered.
pub record Written (r : Result (Unit {0}) Unsent) : Type 0 where
  pub answer : Result (Unit {0}) Error
  pub told : r ≡ sent_after answer

-- ── What is said ────────────────────────────────────────────────────────────────────────────

-- A text's bytes, in ASCII.
abbrev pub bytes_of : String → List ℕ
bytes_of ended = []
bytes_of (c then s) = code c ∷ bytes_of s

-- The line on standard error. A pipe that nobody reads any more is no fault; where writing failed, what was read is of no more interest.
abbrev pub read_complaint : List ℕ → Rest → List ℕ
read_complaint name Failure = name ++ bytes_of ": cannot read standard input\n"
read_complaint name More = []
read_complaint name End = []

unfoldable pub complaint : List ℕ → Got → Result (Unit {0}) Unsent → List ℕ
complaint name got (Ok all) = read_complaint name got.rest
complaint name got (Err Closed) = []
complaint name got (Err Failed) = name ++ bytes_of ": cannot write standard output\n"

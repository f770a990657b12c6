-- The desk's answers, and this paper's number and values for each case.
-- Assumes nothing.
use Rattle.std.specs.Prelude.{ℕ, ◌*◌, ◌≤◌, ◌≡◌, List, Option, None, Some, Result, Ok, Err}
use Rattle.exact.specs.Ship.{vehicle}
use Rattle.ship.specs.Record.{Entries}
use Rattle.ship.specs.Refusals.{number_of}
use Rattle.ship.specs.Rules.{refusal_of}
use Rattle.ship.specs.Figures.{figures}
use Rattle.ship.specs.declared.Refusal.{Refusal}
use Rattle.ship.specs.declared.Ship.{Ship}
use Rattle.layout.specs.Layout.{ship_in}
use Rattle.block.specs.Answers.{unless, read_refusal}
use Rattle.index.specs.Attained.{index_of}
use Rattle.index.specs.declared.Index.{Index}

-- The two bounds of the index, or the first rule broken.
abbrev pub Answer : Type 0
Answer = Result Index Refusal

-- A record's answer where its first refusal is r: the refusal, or where that is none the bounds.
abbrev pub answer_by : Option Refusal → Ship → Answer
answer_by r s = unless r (index_of (figures s))

unfoldable pub answer_of : Ship → Answer
answer_of s = answer_by (refusal_of s) s

unfoldable pub answer_of_block : List ℕ → Answer
answer_of_block b = answer_by (read_refusal b) (ship_in b)

-- A first refusal's number, 0 where there is none.
abbrev pub refusal_number : Option Refusal → ℕ
refusal_number None = 0
refusal_number (Some r) = number_of r

-- The number in an answer, of the index or of the speed, 0 where nothing is refused; the two bounds, both 0 where there are none.
abbrev pub number_in : {A : Type 0} → Result A Refusal → ℕ
number_in (Ok a) = 0
number_in (Err r) = number_of r

abbrev pub lower_in : Answer → ℕ
lower_in (Ok i) = i.lower
lower_in (Err r) = 0

abbrev pub upper_in : Answer → ℕ
upper_in (Ok i) = i.upper
upper_in (Err r) = 0

-- ── An accepted record ──────────────────────────────────────────────────────────────────────

-- Its engine and crane entries, as every value of the record's type has them, and no refusal.
pub record AcceptedRecord (s : Ship) : Type 0 where
  pub entries : Entries s
  pub none : refusal_of s ≡ None

-- Its two bounds, in millionths of a gram of CO2 per tonne and nautical mile.
abbrev pub lower : Ship → ℕ
lower s = lower_in (answer_of s)

abbrev pub upper : Ship → ℕ
upper s = upper_in (answer_of s)

-- No light vehicle carrier: her deadweight over gross tonnage is not below 0.35.
abbrev pub NotLightVehicles : Ship → Type 0
NotLightVehicles s = (figures s).ship.kind ≡ vehicle → 35 * s.particulars.gross.gt ≤ 100 * s.particulars.deadweight.tonnes

-- The desk's answer in two steps: the speed by itself, and the index from a record and speed bounds.
-- Assumes nothing.
use Rattle.std.specs.Prelude.{ℕ, List, [], ◌∷◌, ◌++◌, Bool, true, not, ◌&&◌, eqb, Option, None, Some, Result, Ok, Err}
use Rattle.ship.specs.Refusals.{first_of}
use Rattle.ship.specs.Rules.{refusal_of}
use Rattle.ship.specs.Figures.{figures}
use Rattle.ship.specs.declared.Refusal.{Refusal}
use Rattle.ship.specs.declared.Refusal.TheVariants.{Speed}
use Rattle.ship.specs.declared.Ship.{Ship}
use Rattle.layout.specs.Layout.{ship_in}
use Rattle.block.specs.Answers.{unless, read_refusal}
use Rattle.index.specs.Attained.{speeds_of}
use Rattle.index.specs.declared.SpeedBounds.{SpeedBounds}
use Rattle.desk.specs.Answers.{Answer, answer_by}

-- ── The first step ──────────────────────────────────────────────────────────────────────────

-- A record's own speed bounds: a pair for its most and a pair for its least favourable ship, in millionths of a knot.
abbrev pub own_speeds : Ship → SpeedBounds
own_speeds s = speeds_of (figures s)

-- Her speed bounds, or the first rule broken.
abbrev pub SpeedAnswer : Type 0
SpeedAnswer = Result SpeedBounds Refusal

-- The speed where the record's first refusal is r: the refusal, or where that is none the speed bounds.
abbrev pub speeds_by : Option Refusal → Ship → SpeedAnswer
speeds_by r s = unless r (own_speeds s)

unfoldable pub speeds_answer : Ship → SpeedAnswer
speeds_answer s = speeds_by (refusal_of s) s

unfoldable pub speeds_answer_of_block : List ℕ → SpeedAnswer
speeds_answer_of_block b = speeds_by (read_refusal b) (ship_in b)

-- The speed bounds, all 0 where there are none.
abbrev pub no_speeds : SpeedBounds
no_speeds = record { most = record { lo = 0; hi = 0 }; least = record { lo = 0; hi = 0 } }

abbrev pub speeds_in : SpeedAnswer → SpeedBounds
speeds_in (Ok v) = v
speeds_in (Err r) = no_speeds

-- ── The second step ─────────────────────────────────────────────────────────────────────────

-- All four bounds are the same.
abbrev pub same : SpeedBounds → SpeedBounds → Bool
same v w = (eqb v.most.lo w.most.lo && eqb v.most.hi w.most.hi) && (eqb v.least.lo w.least.lo && eqb v.least.hi w.least.hi)

-- The test that gives a first refusal already found; none where there was none.
abbrev pub own_test : Option Refusal → List (Bool × Refusal)
own_test None = []
own_test (Some r) = (true, r) ∷ []

-- Its tests in their order: the record's own first refusal r, and last whether the speed bounds handed in are the record's own. A refusal that only the
-- index has stands between the two.
abbrev pub index_tests : Option Refusal → Ship → SpeedBounds → List (Bool × Refusal)
index_tests r s v = own_test r ++ ((not (same v (own_speeds s)), Speed) ∷ [])

abbrev pub index_refusal : Option Refusal → Ship → SpeedBounds → Option Refusal
index_refusal r s v = first_of (index_tests r s v) None

abbrev pub index_by : Option Refusal → Ship → SpeedBounds → Answer
index_by r s v = answer_by (index_refusal r s v) s

unfoldable pub index_answer : Ship → SpeedBounds → Answer
index_answer s v = index_by (refusal_of s) s v

unfoldable pub index_answer_of_block : List ℕ → SpeedBounds → Answer
index_answer_of_block b v = index_by (read_refusal b) (ship_in b) v

-- ── One after the other ─────────────────────────────────────────────────────────────────────

-- What the second step makes of the first one's answer: a refusal stays.
abbrev pub then : SpeedAnswer → (SpeedBounds → Answer) → Answer
then (Ok v) second = second v
then (Err r) second = Err r

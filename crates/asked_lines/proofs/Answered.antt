-- Laws of a block's line of its speed.
-- Assumes nothing.
use Prim.Native.Nat.{ℕ}
use mathlib.Core.Path.{◌≡◌, ap, ◌∙◌}
use mathlib.Core.List.{List}
use native.Mathlib.Omega.{arith}
use Rattle.std.specs.Prelude.{Ok, Err}
use lib.ListN.{length}
use Rattle.fields.specs.Numbers.{number_at}
use Rattle.ship.specs.Refusals.{number_of}
use Rattle.ship.specs.declared.Refusal.{Refusal}
use Rattle.index.specs.declared.SpeedBounds.{SpeedBounds}
use Rattle.desk.specs.Answers.{number_in}
use Rattle.desk.specs.Steps.{speeds_answer_of_block}
use Rattle.line.specs.Line.{speeds_line, refusal_line}
use Rattle.lines.proofs.Answered.{not_read, whole}
use Rattle.asked_lines.specs.Lines.{speed_line, speed_line_of}

-- A piece that is not a block is refused with 1.
pub short_line : (n : ℕ) (b : List ℕ) → (length b ≡ 512 → ⊥) → speed_line_of n b ≡ refusal_line n 1
unfolding speed_line_of speeds_answer_of_block
short_line n b h = rw (not_read b h)

-- So only a block of 512 bytes has a speed.
pub speeds_whole : (b : List ℕ) (v : SpeedBounds) → Ok v ≡ speeds_answer_of_block b → length b ≡ 512
unfolding speeds_answer_of_block
speeds_whole b v e = whole b (λ h. let k : 0 ≡ 1 = ap number_in e ∙ rw (not_read b h) in omega (arith, k))

pub line_speeds : (n imo : ℕ) (b : List ℕ) (v : SpeedBounds) → Ok v ≡ speeds_answer_of_block b → imo ≡ number_at b 4 4
    → speeds_line n imo v.most.lo v.most.hi v.least.lo v.least.hi ≡ speed_line_of n b
unfolding speed_line_of
line_speeds n imo b v e h = ap (λ (m : ℕ). speed_line n m (Ok v)) h ∙ ap (speed_line n (number_at b 4 4)) e

pub line_speed_refusal : (n k : ℕ) (b : List ℕ) (r : Refusal) → Err r ≡ speeds_answer_of_block b → k ≡ number_of r → refusal_line n k ≡ speed_line_of n b
unfolding speed_line_of
line_speed_refusal n k b r e h = ap (refusal_line n) h ∙ ap (speed_line n (number_at b 4 4)) e

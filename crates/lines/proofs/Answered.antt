-- Laws of a block's line.
-- Assumes nothing.
use Prim.Native.Nat.{ℕ}
use mathlib.Core.Path.{◌≡◌, refl, ap, ◌∙◌}
use mathlib.Core.List.{List}
use mathlib.Core.Bool.{Bool, true, false}
use native.Mathlib.Omega.{arith}
use Rattle.std.specs.Prelude.{None, Some, Ok, Err}
use borrow.Author.Tests.{eqb-true, eqb-false, ne_eqb}
use lib.Dec.{eqb}
use lib.ListN.{length}
use Rattle.fields.specs.Numbers.{number_at}
use Rattle.fields.specs.Runs.{numbers_at}
use Rattle.ship.specs.Refusals.{number_of, first_of}
use Rattle.ship.specs.declared.Refusal.{Refusal}
use Rattle.ship.specs.declared.Refusal.TheVariants.{Length}
use Rattle.layout.specs.Layout.{head, entry, entries, fields, widths, numbers_in, ship_from, ship_in}
use Rattle.block.specs.Answers.{read_refusal}
use Rattle.index.specs.declared.Index.{Index}
use Rattle.desk.specs.Answers.{answer_of_block, number_in}
use Rattle.line.specs.Line.{bounds_line, refusal_line}
use Rattle.lines.specs.Lines.{line_by, line_of}

-- A piece that is not a block is refused with 1, whatever is asked.
pub not_read : (b : List ℕ) → (length b ≡ 512 → ⊥) → read_refusal b ≡ Some Length
unfolding read_refusal first_of
not_read b h = rw (ne_eqb (length b) 512 h)

pub short_refused : (b : List ℕ) → (length b ≡ 512 → ⊥) → answer_of_block b ≡ Err Length
unfolding answer_of_block
short_refused b h = rw (not_read b h)

pub short_line : (n : ℕ) (b : List ℕ) → (length b ≡ 512 → ⊥) → line_of n b ≡ refusal_line n 1
unfolding line_of
short_line n b h = rw (short_refused b h)

-- So only a block of 512 bytes has bounds.
pub whole : (b : List ℕ) → ((length b ≡ 512 → ⊥) → ⊥) → length b ≡ 512
whole b k = by_length (eqb (length b) 512) refl
  where
    by_length : (t : Bool) → eqb (length b) 512 ≡ t → length b ≡ 512
    by_length true h = eqb-true (length b) 512 h
    by_length false h = absurd (k (eqb-false (length b) 512 h))

pub bounds_whole : (b : List ℕ) (i : Index) → Ok i ≡ answer_of_block b → length b ≡ 512
bounds_whole b i e = whole b (λ h. let k : 0 ≡ 1 = ap number_in e ∙ rw (short_refused b h) in omega (arith, k))

pub line_bounds : (n imo : ℕ) (b : List ℕ) (i : Index) → Ok i ≡ answer_of_block b → imo ≡ number_at b 4 4
    → bounds_line n imo i.lower i.upper ≡ line_of n b
unfolding line_of
line_bounds n imo b i e h = ap (λ (m : ℕ). line_by n m (Ok i)) h ∙ ap (line_by n (number_at b 4 4)) e

pub line_refusal : (n k : ℕ) (b : List ℕ) (r : Refusal) → Err r ≡ answer_of_block b → k ≡ number_of r → refusal_line n k ≡ line_of n b
unfolding line_of
line_refusal n k b r e h = ap (refusal_line n) h ∙ ap (line_by n (number_at b 4 4)) e

-- Bytes 4–7 of an accepted block are the IMO number of its record.
pub imo_read : (b : List ℕ) → read_refusal b ≡ None → number_at b 4 4 ≡ (ship_in b).particulars.imo
unfolding ship_in ship_from numbers_in numbers_at widths fields head entries entry
imo_read b e = refl

-- Words of formulas and definitions.
-- Assumes nothing.
use Rattle.std.specs.Prelude.{ℕ, ◌*◌, Bool, true, false, ltb}
use Rattle.formula.specs.Formula.{Frac, ◌//◌, Formula, lit}

infix 50 ◌<?◌
abbrev pub whole : ℕ → Formula
whole n = lit (n // 1)

abbrev pub percent : ℕ → Formula
percent n = lit (n // 100)

abbrev pub if : {A : Type 0} → Bool → A → A → A
if true a b = a
if false a b = b

abbrev pub ◌<?◌ : Frac → Frac → Bool
x <? y = ltb (x.num * y.den) (y.num * x.den)

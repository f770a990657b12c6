-- The power (a/b)^(p/q) by roots, as a pair. Assumes nothing.
use Rattle.std.specs.Prelude.{ℕ, eqb}
use Rattle.formula.specs.Words.{if}
use Rattle.power.specs.declared.Bounds.{Bounds}
use Rattle.power.specs.Power.{one}
use Rattle.plain_power.specs.declared.Pair.{Pair}
use Rattle.plain_power.specs.Numbers.{val}
use Rattle.plain_power.specs.Steps.{digits, first_digits, unraised, raise_of, base_of}

-- The pair after the first digits of p/q, each of which took one root at either end.
abbrev pub running : (a b p q : ℕ) → Pair
running a b p q = let x = base_of a b in raise_of x (unraised x) (first_digits p q) digits

abbrev pub by_roots : (a b p q : ℕ) → Bounds
by_roots a b p q = record { lo = val (running a b p q).lo; hi = val (running a b p q).hi }

-- The lower and the upper end, in units of 2^-30.
unfoldable pub plain_of : (a b p q : ℕ) → Bounds
plain_of a b p q = if (eqb a b) one (by_roots a b p q)

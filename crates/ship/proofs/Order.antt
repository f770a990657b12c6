-- The first of a list of tests that holds.
-- Assumes nothing.
use Prim.Native.Nat.{ℕ, zero, suc, ◌≤◌}
use native.Mathlib.Omega.{arith}
use mathlib.Core.Path.{◌≡◌, refl, sym, ap, ◌∙◌}
use mathlib.Core.Bool.{Bool, true, false}
use mathlib.Core.List.{List, [], ◌∷◌, ◌++◌}
use lib.ListN.{get_or}
use Rattle.std.specs.Prelude.{Option, None, Some, Ok}
use Rattle.std.specs.Option.{option_or}
use Rattle.std.specs.Result.{result_and}
use Rattle.std.proofs.lemmas.Option.{none-some}
use Rattle.formula.specs.Words.{if}
use Rattle.ship.specs.Refusals.{number_of, First, no_test, given, passed_by, first_of, verdict}
use Rattle.ship.specs.declared.Refusal.{Refusal}

-- ── Given exactly when ──────────────────────────────────────────────────────────────────────

pub first_is : (ts : List (Bool × Refusal)) (rest : Option Refusal) → First ts rest (first_of ts rest)
unfolding first_of
first_is [] rest = no_test
first_is ((true, n) ∷ ts) rest = given
first_is ((false, n) ∷ ts) rest = passed_by (first_is ts rest)

-- Every list of tests has one answer.
pub first_one : {ts : List (Bool × Refusal)} {rest r q : Option Refusal} → First ts rest r → First ts rest q → r ≡ q
first_one no_test no_test = refl
first_one given given = refl
first_one (passed_by f) (passed_by g) = first_one f g

-- ── Where none is given ─────────────────────────────────────────────────────────────────────

-- The first test fails, and the others give none.
pub next_test : (p : Bool) (n : Refusal) (r : Option Refusal) → if p (Some n) r ≡ None → (p ≡ false) × (r ≡ None)
next_test true n r e = absurd (none-some n (sym e))
next_test false n r e = (refl, e)

-- Each test fails.
pub passed : (ts : List (Bool × Refusal)) (rest : Option Refusal) (other : Refusal) → first_of ts rest ≡ None → (i : ℕ) → (get_or ts i (false, other)).0 ≡ false
unfolding first_of
passed [] rest other e i = refl
passed (t ∷ ts) rest other e zero = (next_test t.0 t.1 (first_of ts rest) e).0
passed (t ∷ ts) rest other e (suc i) = passed ts rest other (next_test t.0 t.1 (first_of ts rest) e).1 i

-- ── One list after another ──────────────────────────────────────────────────────────────────

pub first_append : (ts us : List (Bool × Refusal)) (rest : Option Refusal) → first_of (ts ++ us) rest ≡ first_of ts (first_of us rest)
unfolding first_of
first_append [] us rest = refl
first_append (t ∷ ts) us rest = ap (if t.0 (Some t.1)) (first_append ts us rest)

-- Where a refusal, or else another, is none, the first one is.
pub own_none : (r rest : Option Refusal) → option_or r rest ≡ None → r ≡ None
own_none None rest h = refl
own_none (Some r) rest h = h

onward_head : (p : Bool) (n : Refusal) (r rest : Option Refusal) → if p (Some n) (option_or r rest) ≡ option_or (if p (Some n) r) rest
onward_head true n r rest = refl
onward_head false n r rest = refl

-- What comes after a list of tests counts only where the list gives none.
pub onward : (ts : List (Bool × Refusal)) (rest : Option Refusal) → first_of ts rest ≡ option_or (first_of ts None) rest
unfolding first_of
onward [] rest = refl
onward (t ∷ ts) rest = ap (if t.0 (Some t.1)) (onward ts rest) ∙ onward_head t.0 t.1 (first_of ts None) rest

-- The first list's refusal, or else the second's.
pub two_stages : (ts us : List (Bool × Refusal)) → first_of (ts ++ us) None ≡ option_or (first_of ts None) (first_of us None)
two_stages ts us = first_append ts us None ∙ onward ts (first_of us None)

-- Where a check finds all well there is no refusal.
pub well : (r : Option Refusal) → verdict r ≡ Ok tt → r ≡ None
well None e = refl
well (Some r) e = absurd (grind (arith, e))

-- What is checked in two stages.
verdict_or : (r q : Option Refusal) → verdict (option_or r q) ≡ result_and (verdict r) (verdict q)
verdict_or None q = refl
verdict_or (Some r) q = refl

pub in_stages : (ts us : List (Bool × Refusal)) → verdict (first_of (ts ++ us) None) ≡ result_and (verdict (first_of ts None)) (verdict (first_of us None))
in_stages ts us = ap verdict (two_stages ts us) ∙ verdict_or (first_of ts None) (first_of us None)

-- Every refusal has a number, so 0 is free to say that there is none.
pub numbered : (r : Refusal) → 1 ≤ number_of r
numbered r = grind arith

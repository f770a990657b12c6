-- Laws of reading.
-- Assumes nothing.
use Rattle.std.proofs.Common.{ℕ, eqb, ◌+◌, ◌-◌, ◌≤◌, ◌<◌, ◌≡◌, Bool, true, false, Result, Ok, Err, IfOk, refl, arith}
use Rattle.std.specs.declared.io.Error.{Error}
use borrow.Author.Tests.{eqb-false}
use Rattle.formula.specs.Words.{if}
use Rattle.streams.specs.declared.Got.{Got}
use Rattle.streams.specs.declared.Rest.{Rest}
use Rattle.streams.specs.declared.Rest.TheVariants.{More, End, Failure}
use Rattle.streams.specs.Streams.{got_after, is_more, is_going, ReadOn, Filled, answered_before, answered_of}

pub read_within : {n : ℕ} {g r : Got} → g.count ≤ n → ReadOn n g r → r.count ≤ n
read_within {n} {g} {r} h x = rw x.after (by_answer x.answer x.room)
  where
    by_answer : (a : Result ℕ Error) → IfOk a (λ k. k ≤ n - g.count) → (got_after g a).count ≤ n
    by_answer (Ok k) room = omega arith
    by_answer (Err e) room = h

-- Every read moves a byte or is the last.
abbrev pub steps_left : ℕ → Got → ℕ
steps_left n g = n - g.count + if (is_going g) 1 0

pub read_less : {n : ℕ} {g r : Got} → g.count < n → is_going g ≡ true → ReadOn n g r → steps_left n r < steps_left n g
read_less {n} {g} {r} h t x = rw (t, x.after) (by_answer x.answer x.room)
  where
    by_count : (k : ℕ) (none : Bool) → eqb k 0 ≡ none → k ≤ n - g.count
        → n - (g.count + k) + if (is_more (if none End More)) 1 0 < n - g.count + 1
    by_count k true e room = omega arith
    by_count k false e room = let some = eqb-false k 0 e in omega arith

    by_answer : (a : Result ℕ Error) → IfOk a (λ k. k ≤ n - g.count) → steps_left n (got_after g a) < n - g.count + 1
    by_answer (Ok k) room = by_count k (eqb k 0) refl room
    by_answer (Err e) room = omega arith

-- Only bytes that were read are answered, and where a read failed whole blocks of them.
pub answered_within : (g : Got) → answered_of g ≤ g.count
unfolding answered_of
answered_within g = by_rest g.rest
  where
    by_rest : (r : Rest) → answered_before r g.count ≤ g.count
    by_rest More = omega arith
    by_rest End = omega arith
    by_rest Failure = omega arith

-- Where more may come, all of a buffer is answered.
pub going_all : {n : ℕ} {g : Got} → Filled n g → is_going g ≡ true → answered_of g ≡ n
unfolding answered_of
going_all {n} {g} f h = by_rest g.rest refl h
  where
    by_rest : (r : Rest) → g.rest ≡ r → is_more r ≡ true → answered_before r g.count ≡ n
    by_rest More e t = f.full e
    by_rest End e t = cc
    by_rest Failure e t = cc

-- What reading and writing answer, case by case.
-- Assumes nothing.
use Prim.Native.Nat.{ℕ, ◌+◌, ◌*◌, ◌/◌, ◌-◌, ◌≤◌, ◌<◌}
use mathlib.Core.Path.{◌≡◌, refl, sym, ◌∙◌}
use mathlib.Core.Bool.{true}
use mathlib.Core.List.{List, [], ◌∷◌, append_assoc}
use native.Mathlib.Omega.{arith}
use borrow.Author.Tests.{eq-eqb, ne_eqb, lt-ltb, le-ltb}
use borrow.Rule.Slice.PartMut.{put_mid, Post-is}
use lib.ListN.{length, take, drop}
use Rattle.std.specs.Prelude.{Option, None, Some, Result, Ok, Err}
use Rattle.std.specs.Option.{option_or}
use Rattle.formula.specs.Words.{if}
use Rattle.ship.specs.Refusals.{first_of, verdict}
use Rattle.ship.specs.Rules.{refusal_of}
use Rattle.ship.specs.declared.Ship.{Ship}
use Rattle.ship.specs.declared.Refusal.{Refusal}
use Rattle.ship.specs.declared.Refusal.TheVariants.{Length, Check, NoBlock}
use Rattle.ship.proofs.Right.{after_own}
use Rattle.layout.specs.Layout.{encode, ship_in}
use Rattle.block.specs.Answers.{check_refused, block_tests, read_refusal, unless, read_of, no_block, write_refusal, write_of}

-- ── Reading ─────────────────────────────────────────────────────────────────────────────────

-- Of 512 bytes the checks come first: where one differs, no other rule is named.
pub check_first : (b : List ℕ) (s : Ship) → check_refused b ≡ true → first_of (block_tests b s) None ≡ Some Check
unfolding first_of block_tests
check_first b s h = rw h

pub read_short : (b : List ℕ) → (length b ≡ 512 → ⊥) → Err Length ≡ read_of b
unfolding read_of read_refusal first_of
read_short b h = rw (ne_eqb (length b) 512 h)

pub whole_refusal : (b : List ℕ) → length b ≡ 512 → read_refusal b ≡ first_of (block_tests b (ship_in b)) None
unfolding read_refusal first_of
whole_refusal b h = rw (eq-eqb (length b) 512 h)

-- What is answered tells whether there was a refusal, and which.
pub accepted : {A : Type 0} (r : Option Refusal) (a : A) {b : A} → unless r a ≡ Ok b → (r ≡ None) × (b ≡ a)
accepted None a e = (refl, cc)
accepted (Some r) a e = cc

pub refused : {A : Type 0} (r : Option Refusal) (a : A) {q : Refusal} → unless r a ≡ Err q → r ≡ Some q
refused None a e = cc
refused (Some r) a e = cc

-- A check's verdict tells the same.
pub passed : (r : Option Refusal) → verdict r ≡ Ok tt → r ≡ None
passed None e = refl
passed (Some r) e = cc

pub failed : (r : Option Refusal) {q : Refusal} → verdict r ≡ Err q → r ≡ Some q
failed None e = cc
failed (Some r) e = cc

module _ (b : List ℕ) (h : length b ≡ 512) where
  pub read_passed : verdict (first_of (block_tests b (ship_in b)) None) ≡ Ok tt → Ok (ship_in b) ≡ read_of b
  unfolding read_of
  read_passed e = rw (whole_refusal b h, passed _ e)

  pub read_failed : {r : Refusal} → verdict (first_of (block_tests b (ship_in b)) None) ≡ Err r → Err r ≡ read_of b
  unfolding read_of
  read_failed e = rw (whole_refusal b h, failed _ e)

-- ── Writing ─────────────────────────────────────────────────────────────────────────────────

module _ (f : List ℕ) (k : ℕ) (s : Ship) where
  own_then : write_refusal f k s ≡ option_or (refusal_of s) (if (no_block f k) (Some NoBlock) None)
  unfolding write_refusal first_of
  own_then = after_own s ((no_block f k, NoBlock) ∷ [])

  pub write_refused : {r : Refusal} → refusal_of s ≡ Some r → (Err r ≡ verdict (write_refusal f k s)) × (f ≡ write_of f k s)
  unfolding write_of
  write_refused {r} h =
      let e : write_refusal f k s ≡ Some r = own_then ∙ rw h in
      (rw e, rw e)

  pub write_no_block : refusal_of s ≡ None → length f / 512 ≤ k → (Err NoBlock ≡ verdict (write_refusal f k s)) × (f ≡ write_of f k s)
  unfolding write_of
  write_no_block a h =
      let e : write_refusal f k s ≡ Some NoBlock = own_then ∙ rw (a, lt-ltb (length f) (k * 512 + 512) (omega arith)) in
      (rw e, rw e)

  -- The block of that number, lent from the middle of the file.
  pub write_accepted : (ys : List ℕ) → refusal_of s ≡ None → k < length f / 512 → ys ≡ encode s
      → (write_refusal f k s ≡ None) × (put_mid (k * 512) (k * 512 + 512 - k * 512) f ys ≡ write_of f k s)
  unfolding write_of
  write_accepted ys a h g =
      let e : write_refusal f k s ≡ None = own_then ∙ rw (a, le-ltb (length f) (k * 512 + 512) (omega arith)) in
      let at = k * 512 in
      (e, rw (e, Post-is at (at + 512) f (omega arith), g) (sym (append_assoc (take at f) (encode s) (drop (at + 512) f))))

-- What reading and writing together keep. `read` and `write` answer `read_of` and `write_of`, so these are theorems of both.
-- Assumes nothing.
use Prim.Native.Nat.{ℕ, ◌+◌, ◌*◌, ◌≤◌, ◌<◌}
use mathlib.Core.Path.{◌≡◌, refl, sym, ap, ◌∙◌}
use mathlib.Core.Bool.{Bool, true, false}
use mathlib.Core.List.{List, [], ◌∷◌, ◌++◌, append_assoc}
use native.Mathlib.Omega.{arith}
use borrow.Author.Tests.{ltb-false}
use lib.ListN.{length, get_or, take, drop, take-append-drop}
use lib.Seq.{take_at, drop_at, drop-drop, length-take-le, ext_get_or}
use mir.Val.{Val}
use denote.Shadow.{shadow}
use denote.Struct.Declared.{row}
use Rattle.std.specs.Prelude.{Option, None, Some, Result, Ok, Err}
use Rattle.std.specs.Option.{option_or}
use Rattle.std.specs.Result.{result_unwrap_or}
use Rattle.std.proofs.lemmas.Option.{none-some}
use Rattle.formula.specs.Words.{if}
use Rattle.fields.specs.Numbers.{Bytes}
use Rattle.fields.proofs.Numbers.{bytes_take, bytes_drop}
use Rattle.ship.specs.Record.{Entries}
use Rattle.ship.specs.Refusals.{First, first_of}
use Rattle.ship.specs.Rules.{tests, refusal_of}
use Rattle.ship.specs.declared.Ship.{Ship}
use Rattle.ship.specs.declared.Refusal.{Refusal}
use Rattle.ship.specs.declared.Refusal.TheVariants.{Length, NoBlock}
use Rattle.ship.proofs.Order.{first_is, first_one, own_none}
use Rattle.ship.proofs.Right.{after_own}
use Rattle.ship.specs.contracts.Ship.{the_type}
use Rattle.ship.proofs.Typed.{all_entries}
use Rattle.layout.specs.Layout.{encode, empty_ship, ship_in}
use Rattle.block.specs.Answers.{length_refused, block_tests, read_refusal, read_of, no_block, write_refusal, write_of}
use Rattle.layout.proofs.Codec.{encode_length}
use Rattle.block.proofs.Answering.{accepted, refused, write_accepted}
use Rattle.block.proofs.Trips.{read_back, encode_back, record_accepted}

-- ── Every input gets exactly one answer ─────────────────────────────────────────────────────

-- The refusal is that of the first test that holds, or none; and no other is.
pub reading_one : (b : List ℕ) (r : Option Refusal) → First ((length_refused b, Length) ∷ block_tests b (ship_in b)) None r → r ≡ read_refusal b
unfolding read_refusal
reading_one b r f = first_one f (first_is _ None)

pub writing_one : (f : List ℕ) (n : ℕ) (s : Ship) (r : Option Refusal) → First (tests false s ++ ((no_block f n, NoBlock) ∷ [])) None r → r ≡ write_refusal f n s
unfolding write_refusal
writing_one f n s r h = first_one h (first_is _ None)

-- Reading depends on nothing but the 512 bytes.
pub bytes_alone : (b c : List ℕ) → length b ≡ 512 → length c ≡ 512 → ((i : ℕ) → i < 512 → get_or b i 0 ≡ get_or c i 0) → read_of b ≡ read_of c
bytes_alone b c h k f = ap read_of (ext_get_or 0 b c (h ∙ sym k) (λ i l. f i (omega arith)))

-- A refusal comes with no record, and an accepted block with the one that stands in it.
pub refused_alone : (b : List ℕ) {r : Refusal} → read_refusal b ≡ Some r → read_of b ≡ Err r
unfolding read_of
refused_alone b e = rw e

-- So whoever wants a record in any case takes the empty one.
pub refused_empty : (b : List ℕ) → (read_refusal b ≡ None → ⊥) → result_unwrap_or (read_of b) empty_ship ≡ empty_ship
unfolding read_of
refused_empty b h = go (read_refusal b) refl
  where
    go : (r : Option Refusal) → read_refusal b ≡ r → result_unwrap_or (read_of b) empty_ship ≡ empty_ship
    go None e = absurd (h e)
    go (Some r) e = rw e

pub accepted_read : (b : List ℕ) → read_refusal b ≡ None → read_of b ≡ Ok (ship_in b)
unfolding read_of
accepted_read b e = rw e

-- And so the answer tells which.
pub read_accepted : (b : List ℕ) {s : Ship} → read_of b ≡ Ok s → (read_refusal b ≡ None) × (s ≡ ship_in b)
unfolding read_of
read_accepted b e = accepted (read_refusal b) (ship_in b) e

pub read_refused : (b : List ℕ) {r : Refusal} → read_of b ≡ Err r → read_refusal b ≡ Some r
unfolding read_of
read_refused b e = refused (read_refusal b) (ship_in b) e

-- ── There and back ──────────────────────────────────────────────────────────────────────────

-- A ship that is accepted, written to a block and read back is the same ship.
pub same_ship : (s : Ship) → Entries s → refusal_of s ≡ None → read_of (encode s) ≡ Ok s
same_ship = read_back

-- Of a value of the type `Ship`, which has its entries, nothing else need be known.
pub same_ship_value : (s : Ship) (vs : List Val) → shadow ((row the_type).own_val s vs) → refusal_of s ≡ None → read_of (encode s) ≡ Ok s
same_ship_value s vs g = read_back s (all_entries s vs g)

-- A block that is accepted, written again, has the same bytes.
pub same_bytes : (b : List ℕ) → Bytes b → read_refusal b ≡ None → encode (ship_in b) ≡ b
same_bytes = encode_back

-- ── In a file ───────────────────────────────────────────────────────────────────────────────

abbrev pub block_of : List ℕ → ℕ → List ℕ
block_of f n = take 512 (drop (n * 512) f)

module _ (f : List ℕ) (n : ℕ) (s : Ship) where
  -- Where nothing is refused, the record is accepted and the file has the block.
  accepted_parts : write_refusal f n s ≡ None → (refusal_of s ≡ None) × (n * 512 + 512 ≤ length f)
  unfolding write_refusal first_of
  accepted_parts e =
      let h = sym (after_own s ((no_block f n, NoBlock) ∷ [])) ∙ e in
      let own = own_none (refusal_of s) _ h in
      (own, ltb-false (length f) (n * 512 + 512) (not_given (no_block f n) (rw own at h)))
    where
      not_given : (t : Bool) → if t (Some NoBlock) None ≡ None → t ≡ false
      not_given true g = absurd (none-some NoBlock (sym g))
      not_given false g = refl

  written : write_refusal f n s ≡ None → write_of f n s ≡ take (n * 512) f ++ (encode s ++ drop (n * 512 + 512) f)
  unfolding write_of
  written e = rw e (append_assoc (take (n * 512) f) (encode s) (drop (n * 512 + 512) f))

  -- On refusal the file is as it stood.
  pub refused_stands : (write_refusal f n s ≡ None → ⊥) → write_of f n s ≡ f
  unfolding write_of
  refused_stands h = go (write_refusal f n s) refl
    where
      go : (r : Option Refusal) → write_refusal f n s ≡ r → write_of f n s ≡ f
      go None e = absurd (h e)
      go (Some r) e = rw e

  module _ (e : write_refusal f n s ≡ None) where
    front : length (take (n * 512) f) ≡ n * 512
    front = length-take-le (n * 512) f (omega (arith, (accepted_parts e).1))

    from_block : drop (n * 512) (write_of f n s) ≡ encode s ++ drop (n * 512 + 512) f
    from_block = rw (written e) (drop_at (take (n * 512) f) _ (n * 512) front)

    -- Its block holds the ship.
    pub block_written : block_of (write_of f n s) n ≡ encode s
    block_written = rw from_block (take_at (encode s) (drop (n * 512 + 512) f) 512 (encode_length s))

    pub ship_written : Entries s → read_of (block_of (write_of f n s) n) ≡ Ok s
    ship_written whole = ap read_of block_written ∙ read_back s whole (accepted_parts e).0

    before_stands : take (n * 512) (write_of f n s) ≡ take (n * 512) f
    before_stands = rw (written e) (take_at (take (n * 512) f) _ (n * 512) front)

    after_stands : drop (n * 512 + 512) (write_of f n s) ≡ drop (n * 512 + 512) f
    after_stands = sym (drop-drop 512 (n * 512) (write_of f n s)) ∙ rw from_block (drop_at (encode s) (drop (n * 512 + 512) f) 512 (encode_length s))

  -- Every other byte stands as it stood, refused or not.
  pub others_stand : (take (n * 512) (write_of f n s) ≡ take (n * 512) f) × (drop (n * 512 + 512) (write_of f n s) ≡ drop (n * 512 + 512) f)
  others_stand = go (write_refusal f n s) refl
    where
      go : (r : Option Refusal) → write_refusal f n s ≡ r
          → (take (n * 512) (write_of f n s) ≡ take (n * 512) f) × (drop (n * 512 + 512) (write_of f n s) ≡ drop (n * 512 + 512) f)
      go None e = (before_stands e, after_stands e)
      go (Some r) e =
          let h = refused_stands (λ z. none-some r (sym z ∙ e)) in
          (ap (take (n * 512)) h, ap (drop (n * 512 + 512)) h)

-- An accepted block of a file, read and written again to its place, leaves the file as it stood.
pub same_file : (f : List ℕ) (n : ℕ) → Bytes f → n * 512 + 512 ≤ length f → read_refusal (block_of f n) ≡ None
    → (write_refusal f n (ship_in (block_of f n)) ≡ None) × (write_of f n (ship_in (block_of f n)) ≡ f)
same_file f n h k e =
    let b = block_of f n in
    let s = ship_in b in
    let w : write_refusal f n s ≡ None = (write_accepted f n s (encode s) (record_accepted b e) (omega arith) refl).0 in
    let t : encode s ≡ b = encode_back b (bytes_take 512 (drop (n * 512) f) (bytes_drop (n * 512) f h)) e in (
      w,
      written f n s w
          ∙ rw (t, ← drop-drop 512 (n * 512) f, take-append-drop 512 (drop (n * 512) f)) (take-append-drop (n * 512) f),
    )

-- Laws of the lines of a file.
-- Assumes nothing.
use Prim.Native.Nat.{ℕ, zero, suc, ◌+◌, ◌*◌, ◌-◌, ◌/◌, ◌≤◌, ◌<◌}
use mathlib.Core.Path.{◌≡◌, refl, sym, ap, ap₂, ◌∙◌}
use mathlib.Core.List.{List, [], ◌++◌, append_assoc, append-nil}
use mathlib.Core.Bool.{Bool, true, false}
use native.Mathlib.Numerals.{add-one}
use native.Mathlib.Omega.{arith}
use borrow.Author.Tests.{ltb-true, le-leb, lt-leb}
use lib.Dec.{ltb}
use lib.ListN.{length, take, drop, length-append, length-drop, drop_of_length-le}
use lib.Seq.{take_all, take-append-le, drop-append-le, take_at, drop_at, drop-drop}
use Rattle.std.specs.Prelude.{min, ◌^◌}
use Rattle.std.proofs.Common.{inl, inr}
use Rattle.std.proofs.lemmas.Bool.{cases_lt}
use Rattle.std.proofs.lemmas.List.{nil_from_length}
use Rattle.std.proofs.lemmas.Nat.{mul-le, le-div, div-add-mod'}
use Rattle.formula.specs.Words.{if}
use Rattle.decimal.specs.Digits.{Put}
use Rattle.lines.specs.Lines.{piece, pieces, lines_to, lines_of, lines_within}
use Rattle.decimal.proofs.Putting.{put_put, put_none, put_as}

-- ── Pieces ──────────────────────────────────────────────────────────────────────────────────

module _ (chunk rest : List ℕ) (size : length chunk ≡ min 512 (length (chunk ++ rest))) where
  cut : (take 512 (chunk ++ rest) ≡ chunk) × (drop 512 (chunk ++ rest) ≡ rest)
  cut =
      let n : length (chunk ++ rest) ≡ length chunk + length rest = length-append chunk rest in
      elim (cases_lt (length chunk) 512) [
        | inl short ↦
            let none : rest ≡ [] = nil_from_length rest (omega arith) in
            rw none (simp append-nil (take_all 512 chunk (omega arith), drop_of_length-le chunk {i = 512} (omega arith)))
        | inr long ↦ let e : length chunk ≡ 512 = omega arith in (take_at chunk rest 512 e, drop_at chunk rest 512 e)
      ]

-- A chunk that comes off the front of what is left is the next piece, and leaves what comes after it.
module _ (b chunk rest : List ℕ) (i : ℕ) (parts : drop (i * 512) b ≡ chunk ++ rest) (size : length chunk ≡ min 512 (length (drop (i * 512) b))) where
  pub piece_is : chunk ≡ piece i b
  piece_is = sym (ap (take 512) parts ∙ (cut chunk rest (size ∙ ap (λ xs. min 512 (length xs)) parts)).0)

  pub rest_is : rest ≡ drop ((i + 1) * 512) b
  rest_is =
      let m : (i + 1) * 512 ≡ i * 512 + 512 = omega arith in
      sym (ap (λ k. drop k b) m ∙ sym (drop-drop 512 (i * 512) b) ∙ ap (drop 512) parts ∙ (cut chunk rest (size ∙ ap (λ xs. min 512 (length xs)) parts)).1)

-- So the count of the pieces fits, with what is left.
pub count_fits : (b rest : List ℕ) (i most : ℕ) → rest ≡ drop (i * 512) b → i ≤ pieces b → length b < 2 ^ 64 → i + min (length rest) most < 2 ^ 64
count_fits b rest i most e h k = let n : length rest ≡ length b - i * 512 = rw e (length-drop (i * 512) b) in omega arith

-- As many as go into a room, each with its own, have it.
pub each_fits : (count longest room : ℕ) → count ≤ room / longest → count * longest ≤ room
each_fits count longest room h = omega (arith, mul-le count longest (room / longest) longest h (omega arith), div-add-mod' room longest)

-- ── Lines ───────────────────────────────────────────────────────────────────────────────────

module _ (line : ℕ → List ℕ → List ℕ) where
  -- One line more.
  pub next_line : {out mid after : List ℕ} {end next : ℕ} (n : ℕ) (b : List ℕ) (i : ℕ)
      → Put out 0 (lines_to line n b i) mid end → Put mid end (line (n + i) (piece i b)) after next → Put out 0 (lines_to line n b (i + 1)) after next
  unfolding lines_to
  next_line n b i p q = rw add-one (put_put p q)

  -- With no line there is nothing.
  pub no_line : (out : List ℕ) (n : ℕ) (b : List ℕ) → Put out 0 (lines_to line n b 0) out 0
  unfolding lines_to
  no_line out n b = put_none out 0 (omega arith)

  -- After the lines of the first i pieces.
  pub record PutTo (longest n : ℕ) (b before after : List ℕ) (i end : ℕ) : Type 0 where
    pub within : i ≤ pieces b
    pub same_len : length after ≡ length before
    pub short : end ≤ i * longest
    pub put : Put before 0 (lines_to line n b i) after end

  pub put_to_none : (longest n : ℕ) (b out : List ℕ) → PutTo longest n b out out 0 0
  put_to_none longest n b out = record { within = omega arith; same_len = refl; short = omega arith; put = no_line out n b }

  -- While a piece is left there is room for its line, which makes it the lines of one more.
  module _ {longest n i end : ℕ} {b before mid : List ℕ} (so_far : PutTo longest n b before mid i end) (some : 0 < length (drop (i * 512) b)) where
    left : i + 1 ≤ pieces b
    left = let l = length-drop (i * 512) b in omega arith

    pub has_room : pieces b * longest ≤ length before → end + longest ≤ length mid
    has_room h = let m : (i + 1) * longest ≤ pieces b * longest = mul-le (i + 1) longest (pieces b) longest left (omega arith) in omega (arith, so_far.short, so_far.same_len)

    pub put_more : {after block : List ℕ} {next : ℕ} → block ≡ piece i b → length after ≡ length mid → next ≤ end + longest
        → Put mid end (line (n + i) block) after next → PutTo longest n b before after (i + 1) next
    put_more e l u p = record {
      within = left;
      same_len = l ∙ so_far.same_len;
      short = omega (arith, so_far.short);
      put = next_line n b i so_far.put (put_as (ap (line (n + i)) e) p);
    }

  -- With and without room.
  pub with_room : {out after : List ℕ} {end : ℕ} (longest n : ℕ) (b : List ℕ) → pieces b ≤ length out / longest
      → Put out 0 (lines_to line n b (pieces b)) after end → Put out 0 (lines_within longest out line n b) after end
  unfolding lines_within lines_of
  with_room {out} longest n b h p = put_as (rw (le-leb (pieces b * longest) (length out) (each_fits (pieces b) longest (length out) h))) p

  pub no_room : (out : List ℕ) (longest n : ℕ) (b : List ℕ) → 0 < longest → length out / longest < pieces b
      → Put out 0 (lines_within longest out line n b) out 0
  unfolding lines_within
  no_room out longest n b l h =
      let short : length out < pieces b * longest
      = elim (cases_lt (length out) (pieces b * longest)) [ inl k ↦ k | inr k ↦ absurd (omega (arith, h, le-div (pieces b) (length out) longest l k)) ] in
      rw (lt-leb (pieces b * longest) (length out) short) (put_none out 0 (omega arith))

  -- What has room by the longest line has it by more.
  pub more_room : {out after : List ℕ} {end : ℕ} (longest room n : ℕ) (b : List ℕ) → longest ≤ room → pieces b ≤ length out / room
      → Put out 0 (lines_within longest out line n b) after end → Put out 0 (lines_within room out line n b) after end
  unfolding lines_within
  more_room {out} longest room n b l h p =
      let k : pieces b * room ≤ length out = each_fits (pieces b) room (length out) h in
      let m : pieces b * longest ≤ length out = omega (arith, mul-le (pieces b) longest (pieces b) room (omega arith) l) in
      put_as (rw (le-leb (pieces b * room) (length out) k, le-leb (pieces b * longest) (length out) m)) p

  -- An empty file has no lines.
  pub lines_none : (n : ℕ) → lines_of line n [] ≡ []
  unfolding lines_of lines_to
  lines_none n = refl

-- A file read in two goes, the first of k whole blocks, has the lines of both.
module _ (line : ℕ → List ℕ → List ℕ) (n k : ℕ) (a b : List ℕ) (whole : length a ≡ k * 512) where
  front : (i : ℕ) → i ≤ k → lines_to line n (a ++ b) i ≡ lines_to line n a i
  unfolding lines_to
  front zero h = refl
  front (suc i) h =
      let d : drop (i * 512) (a ++ b) ≡ drop (i * 512) a ++ b = drop-append-le (i * 512) a b (omega arith) in
      let t : take 512 (drop (i * 512) a ++ b) ≡ take 512 (drop (i * 512) a)
      = take-append-le 512 (drop (i * 512) a) b (rw (length-drop (i * 512) a) (omega arith)) in
      ap₂ {C = List ℕ} (λ xs p. xs ++ line (n + i) p) (front i (omega arith)) (ap (take 512) d ∙ t)

  back : (j : ℕ) → lines_to line n (a ++ b) (k + j) ≡ lines_to line n a k ++ lines_to line (n + k) b j
  unfolding lines_to
  back zero =
      let z : k + 0 ≡ k = omega arith in
      rw z (front k (omega arith) ∙ sym (append-nil (lines_to line n a k)))
  back (suc j) =
      let e : k + suc j ≡ suc (k + j) = omega arith in
      let m : (k + j) * 512 ≡ k * 512 + j * 512 = omega arith in
      let d : drop ((k + j) * 512) (a ++ b) ≡ drop (j * 512) b
      = ap (λ (x : ℕ). drop x (a ++ b)) m ∙ sym (drop-drop (j * 512) (k * 512) (a ++ b)) ∙ ap (drop (j * 512)) (drop_at a b (k * 512) whole) in
      let c : n + (k + j) ≡ n + k + j = omega arith in
      rw (e, back j, d, c) (append_assoc (lines_to line n a k) (lines_to line (n + k) b j) (line (n + k + j) (piece j b)))

  pub lines_append : lines_of line n (a ++ b) ≡ lines_of line n a ++ lines_of line (n + k) b
  unfolding lines_of
  lines_append =
      let p : pieces a ≡ k = omega arith in
      let q : pieces (a ++ b) ≡ k + pieces b = rw (length-append a b) (omega arith) in
      rw (q, p) (back (pieces b))

-- Where there is room, the first `end` bytes of the buffer are the lines.
pub lines_front : {out after : List ℕ} {end : ℕ} (line : ℕ → List ℕ → List ℕ) (longest n : ℕ) (b : List ℕ) → pieces b * longest ≤ length out
    → Put out 0 (lines_within longest out line n b) after end → take end after ≡ lines_of line n b
unfolding lines_within
lines_front {out} {after} {end} line longest n b h p =
    let w : lines_within longest out line n b ≡ lines_of line n b = rw (le-leb (pieces b * longest) (length out) h) in
    let q : Put out 0 (lines_of line n b) after end = put_as w p in
    let k : length (lines_of line n b) ≡ end = omega (arith, q.place) in
    rw q.bytes (take_at (lines_of line n b) _ end k)

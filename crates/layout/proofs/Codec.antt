-- The parts of a block, and what writing them in turn leaves.
-- Assumes nothing.
use Prim.Native.Nat.{ℕ}
use mathlib.Core.Path.{◌≡◌, refl, ap, ◌∙◌}
use mathlib.Core.List.{List, [], ◌∷◌, ◌++◌, append-nil}
use native.Mathlib.Omega.{arith}
use borrow.Rule.Slice.PartMut.{put_mid}
use lib.ListN.{length, take, drop, length-append, drop_of_length-le}
use lib.Seq.{take_at, drop_at}
use Rattle.fields.specs.Runs.{packed}
use Rattle.fields.specs.Checks.{sums}
use Rattle.fields.specs.declared.Sums.{Sums}
use Rattle.fields.proofs.Runs.{packed_length}
use Rattle.fields.proofs.Parts.{next_part}
use Rattle.ship.specs.declared.Ship.{Ship}
use Rattle.build_fields.specs.Fields.{front, cranes, sizes, added, newer}
use Rattle.layout.specs.Layout.{head, entry, entries, fields, body, encode}

-- ── Lengths ─────────────────────────────────────────────────────────────────────────────────

pub body_length : (s : Ship) → length (body s) ≡ 508
unfolding body fields head entries entry front cranes sizes added newer
body_length s = packed_length (fields s)

pub encode_length : (s : Ship) → length (encode s) ≡ 512
unfolding encode
encode_length s =
    let cs : List (ℕ × ℕ) = (2, (sums 1 0 (body s)).a) ∷ (2, (sums 1 0 (body s)).b) ∷ [] in
    length-append (body s) (packed cs) ∙ rw (body_length s, packed_length cs)

-- ── Parts of a block that was written ───────────────────────────────────────────────────────

pub take_body : (s : Ship) → take 508 (encode s) ≡ body s
unfolding encode
take_body s = take_at (body s) _ 508 (body_length s)

pub drop_body : (s : Ship) → drop 508 (encode s) ≡ packed ((2, (sums 1 0 (body s)).a) ∷ (2, (sums 1 0 (body s)).b) ∷ [])
unfolding encode
drop_body s = drop_at (body s) _ 508 (body_length s)

-- ── Written in turn ─────────────────────────────────────────────────────────────────────────

-- The body, then the checks of what stands there.
pub block_written : (s : Ship) (d : List ℕ) {x y : List ℕ} {q : Sums} → length d ≡ 512 → x ≡ body s → q ≡ sums 1 0 (take 508 (put_mid 0 508 d x))
    → y ≡ packed ((2, q.a) ∷ (2, q.b) ∷ []) → put_mid 508 4 (put_mid 0 508 d x) y ≡ encode s
unfolding encode
block_written s d {x} {y} {q} n e f g =
    let s0 : put_mid 0 508 d x ≡ x ++ drop 508 d = next_part [] d d x 0 508 refl refl in
    let t : take 508 (put_mid 0 508 d x) ≡ body s = rw (s0, e) (take_at (body s) (drop 508 d) 508 (body_length s)) in
    let q' : q ≡ sums 1 0 (body s) = rw t at f in
    next_part x d (put_mid 0 508 d x) y 508 4 (ap length e ∙ body_length s) s0
    ∙ rw (drop_of_length-le d {i = 512} (omega arith), append-nil (x ++ y), g, q', e)

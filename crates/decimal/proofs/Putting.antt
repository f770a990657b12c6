-- Laws of bytes put into a buffer, one after the other.
-- Assumes nothing.
use Prim.Native.Nat.{ℕ, ◌+◌, ◌-◌, ◌≤◌, ◌<◌}
use mathlib.Core.Path.{◌≡◌, sym, ap, ap₂, subst, ◌∙◌}
use mathlib.Core.List.{List, [], ◌∷◌, ◌++◌, append_assoc}
use native.Mathlib.Numerals.{add-one}
use native.Mathlib.Omega.{arith}
use borrow.Rule.Slice.PartMut.{put_mid, Post-is}
use lib.ListN.{length, take, drop, set, length-append, length-drop, take-append-drop}
use lib.Seq.{take_at, drop_at, drop-drop, length-take-le, set_split}
use Rattle.decimal.specs.Digits.{over, Put}

module _ (a xs : List ℕ) (at : ℕ) (h : at + length xs ≤ length a) where
  over_length : length (over a at xs) ≡ length a
  over_length =
      let t : length (take at a) ≡ at = length-take-le at a (omega arith) in
      simp (length-append, length-drop) (omega arith)

  over_over : (ys : List ℕ) → over (over a at xs) (at + length xs) ys ≡ over a at (xs ++ ys)
  over_over ys =
      let A = take at a ++ xs in
      let D = drop (at + length xs) a in
      let t : length (take at a) ≡ at = length-take-le at a (omega arith) in
      let n : length A ≡ at + length xs = length-append (take at a) xs ∙ ap (λ (k : ℕ). k + length xs) t in
      let w : over a at xs ≡ A ++ D = sym (append_assoc (take at a) xs D) in
      let p : take (at + length xs) (over a at xs) ≡ A = ap (take (at + length xs)) w ∙ take_at A D (at + length xs) n in
      let q : drop (at + length xs) (over a at xs) ≡ D = ap (drop (at + length xs)) w ∙ drop_at A D (at + length xs) n in
      let k : at + length xs + length ys ≡ at + length (xs ++ ys) = rw (length-append xs ys) (omega arith) in
      let r : drop (at + length xs + length ys) (over a at xs) ≡ drop (at + length (xs ++ ys)) a
      = sym (drop-drop (length ys) (at + length xs) (over a at xs)) ∙ ap (drop (length ys)) q ∙ drop-drop (length ys) (at + length xs) a
      ∙ ap (λ (m : ℕ). drop m a) k in
      ap₂ {C = List ℕ} (λ u v. u ++ (ys ++ v)) p r
      ∙ append_assoc (take at a) xs (ys ++ drop (at + length (xs ++ ys)) a)
      ∙ ap (λ (l : List ℕ). take at a ++ l) (sym (append_assoc xs ys (drop (at + length (xs ++ ys)) a)))

-- One after the other.
pub put_put : {a b c xs ys : List ℕ} {at m e : ℕ} → Put a at xs b m → Put b m ys c e → Put a at (xs ++ ys) c e
put_put {a} {b} {c} {xs} {ys} {at} {m} {e} p q =
    let n : length b ≡ length a = ap length p.bytes ∙ over_length a xs at p.room in
    let k : length (xs ++ ys) ≡ length xs + length ys = length-append xs ys in
    let f : over b m ys ≡ over (over a at xs) (at + length xs) ys = ap₂ {C = List ℕ} (λ l i. over l i ys) p.bytes p.place in
    record {
      bytes = q.bytes ∙ f ∙ over_over a xs at p.room ys;
      place = omega (arith, p.place, q.place);
      room = omega (arith, p.place, q.room);
    }

-- Nothing.
pub put_none : (a : List ℕ) (at : ℕ) → at ≤ length a → Put a at [] a at
put_none a at h =
    let z : at + 0 ≡ at = omega arith in
    record { bytes = rw z (sym (take-append-drop at a)); place = omega arith; room = omega arith }

-- A part lent on, and back with xs.
pub part_put : (a xs : List ℕ) (at end : ℕ) → length xs ≡ end - at → at ≤ end → end ≤ length a → Put a at xs (put_mid at (end - at) a xs) end
part_put a xs at end n h k =
    let e : end ≡ at + length xs = omega arith in
    record {
      bytes = ap (λ (l : List ℕ). take at a ++ (xs ++ l)) (Post-is at end a h ∙ ap (λ (m : ℕ). drop m a) e);
      place = e;
      room = omega arith;
    }

-- One byte stored.
pub byte_put : (a : List ℕ) (at y : ℕ) → at < length a → Put a at (y ∷ []) (set a at y) (at + 1)
byte_put a at y h = record { bytes = rw add-one (set_split a at y h); place = omega arith; room = omega arith }

-- The same bytes by another name.
pub put_as : {a c xs ys : List ℕ} {at e : ℕ} → xs ≡ ys → Put a at xs c e → Put a at ys c e
put_as {a} {c} {xs} {ys} {at} {e} h p = subst (λ (l : List ℕ). Put a at l c e) h p

-- A text over a part.
pub text_put : (a xs ys : List ℕ) (at w : ℕ) → ys ≡ xs → w ≡ length xs → at + w ≤ length a → Put a at xs (put_mid at (at + w - at) a ys) (at + w)
text_put a xs ys at w e n h = rw e (part_put a xs at (at + w) (omega arith) (omega arith) (omega arith))

-- A text over a part, and a byte after it.
pub text_byte_put : (a xs ys : List ℕ) (at w y : ℕ) → ys ≡ xs → w ≡ length xs → at + w < length a
    → Put a at (xs ++ (y ∷ [])) (set (put_mid at (at + w - at) a ys) (at + w) y) (at + w + 1)
text_byte_put a xs ys at w y e n h =
    let p : Put a at xs (put_mid at (at + w - at) a ys) (at + w) = text_put a xs ys at w e n (omega arith) in
    let m : length (put_mid at (at + w - at) a ys) ≡ length a = ap length p.bytes ∙ over_length a xs at p.room in
    put_put p (byte_put (put_mid at (at + w - at) a ys) (at + w) y (omega arith))

-- Laws of little-endian numbers, once over the width and the place.
-- Assumes nothing.
use Rattle.std.proofs.Common.{◌≡◌, ℕ, zero, suc, ◌+◌, ◌-◌, ◌*◌, ◌/◌, ◌%◌, ◌^◌, ◌<◌, ◌≤◌, Bool, true, false, ◌&&◌, eqb, List, [], ◌∷◌, ◌++◌, length, get_or, take, drop, reverse, set, sym, refl, ap, ◌∙◌, ap₂, append_assoc, append-nil, add-one, arith, lit<, length-drop, length-take-le, take_all, drop-cons, drop-drop, take-suc-set, take-add, ne_eqb}
use Rattle.std.proofs.lemmas.List.{length-reverse, get_or-reverse, get_or-take, get_or-drop}
use Rattle.std.proofs.lemmas.Grind.{get_or_default_zero}
use native.Mathlib.Nat.{pow-succ', pow-le-pow_right}
use Rattle.fields.specs.Numbers.{bytes_of, value_of, number_at, Bytes}

pub bytes_of_length : (w n : ℕ) → length (bytes_of w n) ≡ w
unfolding bytes_of
bytes_of_length zero n = refl
bytes_of_length (suc w) n = ap suc (bytes_of_length w (n / 256))

-- ── There and back ──────────────────────────────────────────────────────────────────────────

-- A number that fits its width is read back.
pub value_bytes : (w n : ℕ) → n < 256 ^ w → value_of (bytes_of w n) ≡ n
unfolding bytes_of value_of
value_bytes zero n h = omega arith
value_bytes (suc w) n h =
    let k : n < 256 * 256 ^ w = rw pow-succ' at h in
    let ih : value_of (bytes_of w (n / 256)) ≡ n / 256 = value_bytes w (n / 256) (omega arith) in
    omega arith

-- Whatever has no element from 256 on.
pub each_byte : (xs : List ℕ) → ((i : ℕ) → get_or xs i 0 < 256) → Bytes xs
each_byte [] h = tt
each_byte (x ∷ xs) h = (h 0, each_byte xs (λ i. h (suc i)))

pub bytes_drop : (n : ℕ) (xs : List ℕ) → Bytes xs → Bytes (drop n xs)
bytes_drop zero xs h = h
bytes_drop (suc n) [] h = tt
bytes_drop (suc n) (x ∷ xs) h = bytes_drop n xs h.1

pub bytes_take : (n : ℕ) (xs : List ℕ) → Bytes xs → Bytes (take n xs)
bytes_take zero xs h = tt
bytes_take (suc n) [] h = tt
bytes_take (suc n) (x ∷ xs) h = (h.0, bytes_take n xs h.1)

-- Bytes that are read are written back.
pub bytes_value : (xs : List ℕ) → Bytes xs → bytes_of (length xs) (value_of xs) ≡ xs
unfolding bytes_of value_of
bytes_value [] h = refl
bytes_value (x ∷ xs) h =
    let b = h.0 in
    let q : (x + 256 * value_of xs) / 256 ≡ value_of xs = omega arith in
    let r : (x + 256 * value_of xs) % 256 ≡ x = omega arith in
    ap₂ {C = List ℕ} (λ y ys. y ∷ ys) r (ap (bytes_of (length xs)) q ∙ bytes_value xs h.1)

pub field_length : (b : List ℕ) (at w : ℕ) → at + w ≤ length b → length (take w (drop at b)) ≡ w
field_length b at w room = length-take-le w (drop at b) (simp length-drop (omega arith))

pub bytes_number : (b : List ℕ) (at w : ℕ) → Bytes b → at + w ≤ length b → bytes_of w (number_at b at w) ≡ take w (drop at b)
unfolding number_at
bytes_number b at w h k =
    let f = take w (drop at b) in
    let n : length f ≡ w = field_length b at w k in
    rw n at (bytes_value f (bytes_take w (drop at b) (bytes_drop at b h)))

-- ── Read from the highest byte down ─────────────────────────────────────────────────────────

pub number_none : (b : List ℕ) (at : ℕ) → number_at b at 0 ≡ 0
unfolding number_at value_of
number_none b at = refl

-- A field's lowest byte, and the rest.
pub number_step : (b : List ℕ) (at w : ℕ) → at < length b → number_at b at (suc w) ≡ get_or b at 0 + 256 * number_at b (at + 1) w
unfolding number_at value_of
number_step b at w h = rw (drop-cons b at 0, add-one)

value_below : (xs : List ℕ) → Bytes xs → value_of xs < 256 ^ length xs
unfolding value_of
value_below [] h = omega arith
value_below (x ∷ xs) h =
    let b = h.0 in
    let ih = value_below xs h.1 in
    rw pow-succ' (omega arith)

-- A field of up to 7 bytes leaves room for one more in 64 bits.
pub number_small : (b : List ℕ) (at w : ℕ) → Bytes b → at + w ≤ length b → w ≤ 7 → number_at b at w < 2 ^ 56
unfolding number_at
number_small b at w h k m =
    let f = take w (drop at b) in
    let n : length f ≡ w = field_length b at w k in
    let l : length f ≤ 7 = omega arith in
    let p : 256 ^ length f ≤ 256 ^ 7 = pow-le-pow_right (lit< tt) l in
    omega (arith, value_below f (bytes_take w (drop at b) (bytes_drop at b h)))

-- The byte that has k of its field's w behind it.
pub byte_before : (b : List ℕ) (at w k x : ℕ) → at + w ≤ length b
    → (k < length (reverse (take w (drop at b)))) × (x ≡ get_or (reverse (take w (drop at b))) k x)
    → (k < w) × (x ≡ get_or b (at + (w - 1 - k)) 0)
byte_before b at w k x room (h, e) =
    let f = take w (drop at b) in
    let n : length f ≡ w = field_length b at w room in
    let m : k < w = rw (length-reverse f, n) at h in
    let d : get_or (reverse f) k x ≡ get_or (reverse f) k 0 = get_or_default_zero (reverse f) k x h in
    (m, e ∙ d ∙ rw (get_or-reverse f k 0 (omega arith), n, get_or-take w (drop at b) (w - 1 - k) 0 (omega arith), get_or-drop at b (w - 1 - k) 0))

-- One byte more of a number that is read from its highest byte down: n stands in the last k of its w bytes.
module _ (b : List ℕ) (at w k n : ℕ) (more : k < w) (room : at + w ≤ length b) (e : n ≡ number_at b (at + (w - k)) k) where
  pub number_again : n * 256 + get_or b (at + (w - 1 - k)) 0 ≡ number_at b (at + (w - (k + 1))) (k + 1)
  number_again =
      let here = at + (w - 1 - k) in
      let p : here + 1 ≡ at + (w - k) = omega arith in
      let q : at + (w - (k + 1)) ≡ here = omega arith in
      rw (q, add-one k) (omega (arith, rw p at (number_step b here k (omega arith))))

  pub number_room : Bytes b → w ≤ 8 → n < 2 ^ 56
  number_room bs m = rw e (number_small b (at + (w - k)) k bs (omega arith) (omega arith))

-- ── Zeros, byte by byte ─────────────────────────────────────────────────────────────────────

eqb_sum : (x y : ℕ) → eqb (x + 256 * y) 0 ≡ eqb x 0 && eqb y 0
eqb_sum zero zero = refl
eqb_sum zero (suc y) = ne_eqb (0 + 256 * suc y) 0 (omega arith) ∙ sym (ne_eqb (suc y) 0 (omega arith))
eqb_sum (suc x) y = ne_eqb (suc x + 256 * y) 0 (omega arith) ∙ sym (ap (λ (b : Bool). b && eqb y 0) (ne_eqb (suc x) 0 (omega arith)))

and_assoc : (a b c : Bool) → a && (b && c) ≡ a && b && c
and_assoc true b c = refl
and_assoc false b c = refl

-- With one byte more behind.
pub zero_again : (xs : List ℕ) (x : ℕ) → eqb (value_of (xs ++ x ∷ [])) 0 ≡ eqb (value_of xs) 0 && eqb x 0
unfolding value_of
zero_again [] x = ap (λ n. eqb n 0) (omega arith)
zero_again (y ∷ xs) x =
    rw (eqb_sum y (value_of (xs ++ x ∷ [])), zero_again xs x, eqb_sum y (value_of xs)) (and_assoc (eqb y 0) (eqb (value_of xs) 0) (eqb x 0))

-- Where a number is 0, so are its bytes in front and those behind.
zero_parts : (xs ys : List ℕ) → value_of (xs ++ ys) ≡ 0 → (value_of xs ≡ 0) × (value_of ys ≡ 0)
unfolding value_of
zero_parts [] ys h = (refl, h)
zero_parts (x ∷ xs) ys h =
    let k = zero_parts xs ys (omega arith) in
    (omega (arith, k.0), k.1)

pub zero_split : (b : List ℕ) (at n m : ℕ) → number_at b at (n + m) ≡ 0 → (number_at b at n ≡ 0) × (number_at b (at + n) m ≡ 0)
unfolding number_at
zero_split b at n m h =
    let k = zero_parts (take n (drop at b)) (take m (drop n (drop at b))) (rw (take-add n m (drop at b)) at h) in
    (k.0, rw (drop-drop n at b) at k.1)

-- ── A number stored byte by byte ────────────────────────────────────────────────────────────

-- What stands as far as i and what is ahead are the whole number's w bytes.
module _ (bytes : List ℕ) (w v rest i : ℕ) (e : bytes_of w v ≡ take i bytes ++ bytes_of (w - i) rest) where
  pub put_again : i < length bytes → i < w
      → bytes_of w v ≡ take (i + 1) (set bytes i (rest % 256)) ++ bytes_of (w - (i + 1)) (rest / 256)
  unfolding bytes_of
  put_again h m =
      let k : w - i ≡ suc (w - (i + 1)) = omega arith in
      e ∙ rw (k, add-one i, take-suc-set bytes i (rest % 256) h) (sym (append_assoc (take i bytes) (rest % 256 ∷ []) _))

  pub put_end : length bytes ≤ i → w ≤ i → bytes ≡ bytes_of w v
  unfolding bytes_of
  put_end h m =
      let k : w - i ≡ 0 = omega arith in
      sym (e ∙ rw (k, append-nil (take i bytes)) (take_all i bytes h))

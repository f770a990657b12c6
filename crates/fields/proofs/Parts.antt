-- A whole that is overwritten part by part, from the front.
-- Assumes nothing.
use Rattle.std.proofs.Common.{◌≡◌, ℕ, ◌+◌, ◌-◌, ◌≤◌, List, ◌++◌, length, take, drop, sym, ap, ◌∙◌, append_assoc, arith, length-append, length-take-le, drop-drop, take_at, drop_at}
use borrow.Rule.Slice.PartMut.{mid_of, put_mid, Post-is, mid_len}
use Rattle.fields.specs.Numbers.{bytes_of}

-- What stands as far as at + w when the w elements from at became ys.
pub taken : (part ys : List ℕ) (at w : ℕ) → at + w ≤ length part → length ys ≡ w → take (at + w) (put_mid at (at + w - at) part ys) ≡ take at part ++ ys
taken part ys at w h n =
    let m : length (take at part ++ ys) ≡ at + w = length-append (take at part) ys ∙ rw (length-take-le at part (omega arith), n) in
    ap (take (at + w)) (sym (append_assoc (take at part) ys _)) ∙ take_at (take at part ++ ys) _ (at + w) m

-- Where part is A and then d, its next w elements become ys.
pub next_part : (A d part ys : List ℕ) (at w : ℕ) → length A ≡ at → part ≡ A ++ drop at d → put_mid at (at + w - at) part ys ≡ A ++ ys ++ drop (at + w) d
next_part A d part ys at w n e =
    let t : take at part ≡ A = rw e (take_at A (drop at d) at n) in
    let r : drop at part ≡ drop at d = rw e (drop_at A (drop at d) at n) in
    let q : drop (at + w) part ≡ drop (at + w) d = sym (drop-drop w at part) ∙ ap (drop w) r ∙ drop-drop w at d in
    rw (Post-is at (at + w) part (omega arith), t, q) (sym (append_assoc A ys (drop (at + w) d)))

-- A number stored over a part of w elements has w bytes.
pub bytes_part : (a w v : ℕ) (xs : List ℕ) → a + w ≤ length xs → bytes_of (length (mid_of a (a + w - a) xs)) v ≡ bytes_of w v
bytes_part a w v xs h =
    let n : a + w - a ≡ w = omega arith in
    ap (λ (k : ℕ). bytes_of k v) (mid_len a (a + w) xs h ∙ n)

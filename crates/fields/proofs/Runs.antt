-- Laws of runs of fields, once over the list of widths.
-- Assumes nothing.
use Rattle.std.proofs.Common.{◌≡◌, ℕ, zero, suc, ◌+◌, ◌-◌, ◌*◌, ◌^◌, ◌<◌, ◌≤◌, List, [], ◌∷◌, ◌++◌, map, length, get_or, take, drop, sym, refl, ap, ◌∙◌, ap₂, append_assoc, append-nil, add-one, arith, length-append, drop_of_length-le, take_all, drop-cons, drop-drop, take_at, take-add, drop_at}
use borrow.Rule.Slice.PartMut.{mid_of, put_mid}
use Rattle.fields.specs.Numbers.{bytes_of, value_of, number_at, Bytes}
use Rattle.fields.specs.Runs.{pack, numbers_at, total, widths_of, numbers_of, packed}
use Rattle.fields.proofs.Numbers.{bytes_of_length, value_bytes, bytes_number, zero_split}
use Rattle.fields.proofs.Parts.{taken, next_part, bytes_part}

-- ── A run, field by field ───────────────────────────────────────────────────────────────────

pub total_drop : (fs : List (ℕ × ℕ)) (i : ℕ) → i < length fs
    → total (widths_of (drop i fs)) ≡ (get_or fs i (0, 0)).0 + total (widths_of (drop (i + 1) fs))
total_drop fs i h = rw (drop-cons fs i (0, 0), add-one)

packed_drop : (fs : List (ℕ × ℕ)) (i : ℕ) → i < length fs
    → packed (drop i fs) ≡ bytes_of (get_or fs i (0, 0)).0 (get_or fs i (0, 0)).1 ++ packed (drop (i + 1) fs)
unfolding pack
packed_drop fs i h = rw (drop-cons fs i (0, 0), add-one)

pub packed_append : (fs gs : List (ℕ × ℕ)) → packed (fs ++ gs) ≡ packed fs ++ packed gs
unfolding pack
packed_append [] gs = refl
packed_append (f ∷ fs) gs = ap (λ (l : List ℕ). bytes_of f.0 f.1 ++ l) (packed_append fs gs) ∙ sym (append_assoc (bytes_of f.0 f.1) (packed fs) (packed gs))

total_append : (fs gs : List (ℕ × ℕ)) → total (widths_of (fs ++ gs)) ≡ total (widths_of fs) + total (widths_of gs)
total_append [] gs = omega arith
total_append (f ∷ fs) gs = omega (arith, total_append fs gs)

pub packed_length : (fs : List (ℕ × ℕ)) → length (packed fs) ≡ total (widths_of fs)
unfolding pack
packed_length [] = refl
packed_length (f ∷ fs) = rw (length-append (bytes_of f.0 f.1) (packed fs), bytes_of_length f.0 f.1, packed_length fs)

-- A run stored field by field: what stands as far as at and what is ahead are the whole run.
module _ (fs : List (ℕ × ℕ)) (part : List ℕ) (at i : ℕ) (e : packed fs ≡ take at part ++ packed (drop i fs)) where
  pub run_again : (y : List ℕ) → i < length fs → at + (get_or fs i (0, 0)).0 ≤ length part
      → y ≡ bytes_of (length (mid_of at (at + (get_or fs i (0, 0)).0 - at) part)) (get_or fs i (0, 0)).1
      → packed fs
      ≡ take (at + (get_or fs i (0, 0)).0) (put_mid at (at + (get_or fs i (0, 0)).0 - at) part y) ++ packed (drop (i + 1) fs)
  run_again y h room f =
      let w = (get_or fs i (0, 0)).0 in
      let v = (get_or fs i (0, 0)).1 in
      let f' : y ≡ bytes_of w v = f ∙ bytes_part at w v part room in
      let n : length y ≡ w = ap length f' ∙ bytes_of_length w v in
      e ∙ rw (packed_drop fs i h, taken part y at w room n, f') (sym (append_assoc (take at part) (bytes_of w v) _))

  pub run_end : length fs ≤ i → at + total (widths_of (drop i fs)) ≡ length part → part ≡ packed fs
  unfolding pack
  run_end h n =
      let z = drop_of_length-le fs {i = i} h in
      let m : at + 0 ≡ length part = rw z at n in
      sym (e ∙ rw (z, append-nil (take at part)) (take_all at part (omega arith)))

-- ── There and back ──────────────────────────────────────────────────────────────────────────

-- Each number fits its width, field by field.
pub data Fit : List (ℕ × ℕ) → Type 0 where
  none : Fit []
  more : {w n : ℕ} {fs : List (ℕ × ℕ)} → n < 256 ^ w → Fit fs → Fit ((w, n) ∷ fs)

infixr 67 ◌&◌
pub ◌&◌ : {w n : ℕ} {fs : List (ℕ × ℕ)} → n < 256 ^ w → Fit fs → Fit ((w, n) ∷ fs)
h & hs = more h hs

pub fit_append : {fs gs : List (ℕ × ℕ)} → Fit fs → Fit gs → Fit (fs ++ gs)
fit_append none k = k
fit_append (more h hs) k = more h (fit_append hs k)

-- What was packed is read.
pub unpack : {fs : List (ℕ × ℕ)} (b q : List ℕ) (at : ℕ) → Fit fs → drop at b ≡ packed fs ++ q → numbers_at b at (widths_of fs) ≡ numbers_of fs
unfolding pack number_at numbers_at
unpack b q at none e = refl
unpack b q at (more {w} {n} {fs} h hs) e =
    let rest = packed fs ++ q in
    let e' : drop at b ≡ bytes_of w n ++ rest = e ∙ append_assoc (bytes_of w n) (packed fs) q in
    let v : value_of (take w (drop at b)) ≡ n = rw (e', take_at (bytes_of w n) rest w (bytes_of_length w n)) (value_bytes w n h) in
    let r : drop (at + w) b ≡ rest = rw (← drop-drop w at b, e') (drop_at (bytes_of w n) rest w (bytes_of_length w n)) in
    ap₂ {C = List ℕ} (λ x xs. x ∷ xs) v (unpack b q (at + w) hs r)

-- What is read is packed to the same bytes.
pub repack : (ws b : List ℕ) (at : ℕ) → Bytes b → at + total ws ≤ length b → pack ws (numbers_at b at ws) ≡ take (total ws) (drop at b)
unfolding pack numbers_at
repack [] b at h k = refl
repack (w ∷ ws) b at h k =
    rw (
      bytes_number b at w h (omega arith),
      repack ws b (at + w) h (omega arith),
      take-add w (total ws) (drop at b),
      drop-drop w at b,
    )

-- ── Runs written in turn ────────────────────────────────────────────────────────────────────

-- Where part is a run and then d, and its next w elements become another run, part is both runs and then d.
pub then_run : (fs gs : List (ℕ × ℕ)) (d : List ℕ) (at w : ℕ) {part ys : List ℕ} → total (widths_of fs) ≡ at → part ≡ packed fs ++ drop at d
    → ys ≡ packed gs → put_mid at (at + w - at) part ys ≡ packed (fs ++ gs) ++ drop (at + w) d
then_run fs gs d at w {part} {ys} n e y = rw (packed_append fs gs, ← y) (next_part (packed fs) d part ys at w (packed_length fs ∙ n) e)

-- A run over a part of its own length.
pub run_written : (fs : List (ℕ × ℕ)) (d : List ℕ) {y : List ℕ} → length d ≡ total (widths_of fs) → y ≡ packed fs ++ drop (total (widths_of fs)) d
    → y ≡ packed fs
run_written fs d n e = e ∙ rw (drop_of_length-le d {i = total (widths_of fs)} (omega arith)) (append-nil (packed fs))

-- ── A run of zeros ──────────────────────────────────────────────────────────────────────────

-- Each number that stands in zero bytes is 0.
pub zero_run : (b : List ℕ) (at : ℕ) (ws : List ℕ) → number_at b at (total ws) ≡ 0 → numbers_at b at ws ≡ map (λ w. 0) ws
unfolding numbers_at
zero_run b at [] h = refl
zero_run b at (w ∷ ws) h =
    let k = zero_split b at w (total ws) h in
    ap₂ {C = List ℕ} (λ y ys. y ∷ ys) k.0 (zero_run b (at + w) ws k.1)

-- ── Entries of one width, written in turn ───────────────────────────────────────────────────

-- The first n entries, one after the other.
abbrev pub entries_to : (ℕ → List (ℕ × ℕ)) → ℕ → List (ℕ × ℕ)
entries_to f zero = []
entries_to f (suc n) = entries_to f n ++ f n

entries_total : (f : ℕ → List (ℕ × ℕ)) (w : ℕ) → ((i : ℕ) → total (widths_of (f i)) ≡ w) → (n : ℕ) → total (widths_of (entries_to f n)) ≡ w * n
entries_total f w each zero = omega arith
entries_total f w each (suc n) = rw (total_append (entries_to f n) (f n), entries_total f w each n, each n) (omega arith)

-- Where part is n entries and then d, and the next became entry n.
pub next_entry : (f : ℕ → List (ℕ × ℕ)) (w : ℕ) → ((i : ℕ) → total (widths_of (f i)) ≡ w) → (n : ℕ) (d part ys : List ℕ)
    → part ≡ packed (entries_to f n) ++ drop (w * n) d → ys ≡ packed (f n)
    → put_mid (w * n) (w * n + w - w * n) part ys ≡ packed (entries_to f (n + 1)) ++ drop (w * (n + 1)) d
next_entry f w each n d part ys e y =
    let p : w * (n + 1) ≡ w * n + w = omega arith in
    rw (p, add-one n) (then_run (entries_to f n) (f n) d (w * n) w (entries_total f w each n) e y)

-- All n entries over a part of their length.
pub entries_written : (f : ℕ → List (ℕ × ℕ)) (w n i : ℕ) (d : List ℕ) {part : List ℕ} → length d ≡ w * n → i ≤ n → n ≤ i
    → part ≡ packed (entries_to f i) ++ drop (w * i) d → part ≡ packed (entries_to f n)
entries_written f w n i d {part} long below done e =
    let k : i ≡ n = omega arith in
    rw k at e ∙ rw (drop_of_length-le d {i = w * n} (omega arith)) (append-nil (packed (entries_to f n)))

-- Laws of decimal digits, once over the number.
-- Assumes nothing.
use Prim.Native.Nat.{ℕ, zero, suc, ◌+◌, ◌*◌, ◌/◌, ◌%◌, ◌^◌, ◌-◌, ◌≤◌, ◌<◌}
use mathlib.Core.Path.{◌≡◌, refl, sym, ap, ◌∙◌}
use mathlib.Core.List.{List, [], ◌∷◌, ◌++◌, append-nil}
use mathlib.Core.Bool.{Bool, true, false}
use native.Mathlib.Nat.{pow-succ', one-le-pow}
use native.Mathlib.Numerals.{add-one}
use native.Mathlib.Omega.{arith}
use borrow.Author.Tests.{ltb-true, ltb-false, lt-ltb, le-ltb}
use lib.Dec.{ltb}
use lib.ListN.{length, drop, set, length-append, length-set, drop_of_length-le}
use lib.Seq.{drop-cons, drop-set-lt, get_or-set_same, append_snoc}
use Rattle.formula.specs.Words.{if}
use Rattle.decimal.specs.Digits.{digit, spelled, decimal}

-- ── The two rules of decimal ────────────────────────────────────────────────────────────────

enough : (f g n : ℕ) → n ≤ f → n ≤ g → spelled f n ≡ spelled g n
unfolding spelled
enough zero zero n h k = refl
enough zero (suc g) n h k = rw (lt-ltb n 10 (omega arith))
enough (suc f) zero n h k = rw (lt-ltb n 10 (omega arith))
enough (suc f) (suc g) n h k = rw (enough f g (n / 10) (omega arith) (omega arith))

pub decimal_small : (n : ℕ) → n < 10 → decimal n ≡ digit n ∷ []
unfolding decimal spelled
decimal_small zero h = refl
decimal_small (suc m) h = rw (lt-ltb (suc m) 10 h)

pub decimal_large : (n : ℕ) → 10 ≤ n → decimal n ≡ decimal (n / 10) ++ (digit (n % 10) ∷ [])
unfolding decimal spelled
decimal_large zero h = absurd (omega arith)
decimal_large (suc m) h =
    rw (le-ltb (suc m) 10 h) (ap (λ (xs : List ℕ). xs ++ (digit (suc m % 10) ∷ [])) (enough m (suc m / 10) (suc m / 10) (omega arith) (omega arith)))

-- ── Read back ───────────────────────────────────────────────────────────────────────────────

-- The number that digits stand for, where n was read before them.
abbrev pub read_on : ℕ → List ℕ → ℕ
read_on n [] = n
read_on n (x ∷ xs) = read_on (n * 10 + (x - 48)) xs

abbrev pub value : List ℕ → ℕ
value xs = read_on 0 xs

read_snoc : (n : ℕ) (xs : List ℕ) (y : ℕ) → read_on n (xs ++ (y ∷ [])) ≡ read_on n xs * 10 + (y - 48)
read_snoc n [] y = refl
read_snoc n (x ∷ xs) y = read_snoc (n * 10 + (x - 48)) xs y

value_spelled : (f n : ℕ) → n ≤ f → value (spelled f n) ≡ n
unfolding spelled
value_spelled zero n h = omega arith
value_spelled (suc f) n h = by_size (ltb n 10) (value_spelled f (n / 10) (omega arith))
  where
    by_size : (b : Bool) → value (spelled f (n / 10)) ≡ n / 10
        → value (if b (digit n ∷ []) (spelled f (n / 10) ++ (digit (n % 10) ∷ []))) ≡ n
    by_size true ih = omega arith
    by_size false ih = read_snoc 0 (spelled f (n / 10)) (digit (n % 10)) ∙ omega arith

-- The digits of a number are read back as that number, so no two numbers have the same digits.
pub value_decimal : (n : ℕ) → value (decimal n) ≡ n
unfolding decimal
value_decimal n = value_spelled n n (omega arith)

pub decimal_one : (m n : ℕ) → decimal m ≡ decimal n → m ≡ n
decimal_one m n e = sym (value_decimal m) ∙ ap value e ∙ value_decimal n

-- ── How many ────────────────────────────────────────────────────────────────────────────────

pub width_small : (n : ℕ) → n < 10 → length (decimal n) ≡ 1
width_small n h = rw (decimal_small n h)

width_large : (n : ℕ) → 10 ≤ n → length (decimal n) ≡ length (decimal (n / 10)) + 1
width_large n h = rw (decimal_large n h, length-append (decimal (n / 10)) (digit (n % 10) ∷ []))

pub width_least : (n : ℕ) → 0 < length (decimal n)
width_least n = by_size (ltb n 10) refl
  where
    by_size : (b : Bool) → ltb n 10 ≡ b → 0 < length (decimal n)
    by_size true e = omega (arith, width_small n (ltb-true n 10 e))
    by_size false e = omega (arith, width_large n (ltb-false n 10 e))

-- A number below 10^k has at most k digits (but 0 has one, where k is 0), and one from 10^k on has more.
pub width_within : (k n : ℕ) → 0 < k → n < 10 ^ k → length (decimal n) ≤ k
width_within zero n p h = absurd (omega arith)
width_within (suc zero) n p h = omega (arith, width_small n h)
width_within (suc (suc k)) n p h =
    let t : n < 10 * 10 ^ suc k = rw (pow-succ' 10 (suc k)) at h in
    by_size (ltb n 10) refl (width_within (suc k) (n / 10) (omega arith) (omega arith))
  where
    by_size : (b : Bool) → ltb n 10 ≡ b → length (decimal (n / 10)) ≤ suc k → length (decimal n) ≤ suc (suc k)
    by_size true e ih = omega (arith, width_small n (ltb-true n 10 e))
    by_size false e ih = omega (arith, width_large n (ltb-false n 10 e))

pub width_beyond : (k n : ℕ) → 10 ^ k ≤ n → k < length (decimal n)
width_beyond zero n h = width_least n
width_beyond (suc k) n h =
    let t : 10 * 10 ^ k ≤ n = rw pow-succ' at h in
    omega (arith, width_large n (omega (arith, one-le-pow k 10 (omega arith))), width_beyond k (n / 10) (omega arith))

-- So one from 10^k on and below ten times that has one digit more than k.
pub width_from_log : (k n : ℕ) → 10 ^ k ≤ n → n < 10 * 10 ^ k → k + 1 ≡ length (decimal n)
width_from_log k n least most =
    let t : n < 10 ^ suc k = rw (pow-succ' 10 k) most in
    omega (arith, width_beyond k n least, width_within (suc k) n (omega arith) t)

-- A 64-bit number has at most 20 digits.
pub width_limit : (n : ℕ) → n < 2 ^ 64 → length (decimal n) ≤ 20
width_limit n h = width_within 20 n (omega arith) (omega arith)

-- ── From the last digit to the first ────────────────────────────────────────────────────────

-- The last k digits of n.
unfoldable pub last_digits : ℕ → ℕ → List ℕ
last_digits zero n = []
last_digits (suc k) n = last_digits k (n / 10) ++ (digit (n % 10) ∷ [])

last_spelled : (f n : ℕ) → n ≤ f → spelled f n ≡ last_digits (length (spelled f n)) n
unfolding spelled last_digits
last_spelled zero n h = let z : n % 10 ≡ n = omega arith in rw z
last_spelled (suc f) n h = by_size (ltb n 10) refl (last_spelled f (n / 10) (omega arith))
  where
    by_size : (b : Bool) → ltb n 10 ≡ b → spelled f (n / 10) ≡ last_digits (length (spelled f (n / 10))) (n / 10)
        → if b (digit n ∷ []) (spelled f (n / 10) ++ (digit (n % 10) ∷ []))
        ≡ last_digits (length (if b (digit n ∷ []) (spelled f (n / 10) ++ (digit (n % 10) ∷ [])))) n
    by_size true e ih = let z : n % 10 ≡ n = omega (arith, ltb-true n 10 e) in rw z
    by_size false e ih =
        let c : length (spelled f (n / 10) ++ (digit (n % 10) ∷ [])) ≡ suc (length (spelled f (n / 10)))
        = length-append (spelled f (n / 10)) (digit (n % 10) ∷ []) ∙ add-one (length (spelled f (n / 10))) in
        rw c (ap (λ (l : List ℕ). l ++ (digit (n % 10) ∷ [])) ih)

pub decimal_last : (n : ℕ) → decimal n ≡ last_digits (length (decimal n)) n
unfolding decimal
decimal_last n = last_spelled n n (omega arith)

-- A part that has the digits D from `left` on, and the one before them stored.
pub stored_start : (n k : ℕ) (part : List ℕ) → k ≡ length (decimal n) → length part ≡ k → last_digits k n ++ drop k part ≡ decimal n
stored_start n k part e h = rw (drop_of_length-le part {i = k} (omega arith), append-nil (last_digits k n), e) (sym (decimal_last n))

pub stored_again : (left rest : ℕ) (part D : List ℕ) → 0 < left → left ≤ length part → last_digits left rest ++ drop left part ≡ D
    → last_digits (left - 1) (rest / 10) ++ drop (left - 1) (set part (left - 1) (digit (rest % 10))) ≡ D
unfolding last_digits
stored_again zero rest part D h k e = absurd (omega arith)
stored_again (suc l) rest part D h k e =
    let d = digit (rest % 10) in
    let m : l < length (set part l d) = rw (length-set part l d) (omega arith) in
    let s : drop l (set part l d) ≡ d ∷ drop (suc l) part
    = drop-cons (set part l d) l 0 m ∙ rw (get_or-set_same part l d 0 (omega arith), drop-set-lt (suc l) part l d (omega arith)) in
    let z : suc l - 1 ≡ l = omega arith in
    rw z (ap (λ (ys : List ℕ). last_digits l (rest / 10) ++ ys) s ∙ sym (append_snoc (last_digits l (rest / 10)) d (drop (suc l) part)) ∙ e)

pub stored_end : (rest : ℕ) (part D : List ℕ) → last_digits 0 rest ++ drop 0 part ≡ D → part ≡ D
unfolding last_digits
stored_end rest part D e = e

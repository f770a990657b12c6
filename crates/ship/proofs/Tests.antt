-- What tests that hold, or don't, say of numbers.
-- Assumes nothing.
use Prim.Native.Nat.{ℕ, zero, suc, ◌+◌, ◌/◌, ◌≤◌, ◌<◌}
use mathlib.Core.Path.{◌≡◌, refl, sym, ap, ap₂, ◌∙◌}
use mathlib.Core.Bool.{Bool, true, false, ◌&&◌, ◌||◌}
use mathlib.Core.List.{List, [], ◌∷◌}
use native.Mathlib.Omega.{arith}
use borrow.Author.Tests.{lt-ltb}
use lib.Dec.{ltb, leb}
use lib.ListN.{get_or, length, take, drop}
use Rattle.std.specs.List.{list_any, enumerate_from}
use Rattle.std.proofs.Math.Bool.{or_assoc, or-false}
pub use Rattle.std.proofs.lemmas.Bool.{or_parts as neither}
use Rattle.std.proofs.Math.Seq.{take-nil, drop-nil}
use Rattle.std.proofs.lemmas.Bool.{lt-leb}
use Rattle.ship.specs.Record.{no_engine, no_crane}
use Rattle.ship.specs.Rules.{outside, nonzero, any_used, any_unused, any_below, engine_refused, engines_refused, apart}
use Rattle.ship.specs.Accepted.{Within}
use Rattle.ship.specs.declared.Crane.{Crane}
use Rattle.ship.specs.declared.Engine.{Engine}

-- The test of rule 15 without its products, which need not fit.
pub apart_divided : (w h : ℕ) → ltb (h / 20) w || ltb w ((h + 499) / 500) ≡ apart w h
apart_divided w h = grind arith

-- ── Tests that fail ─────────────────────────────────────────────────────────────────────────

pub not_with : (a b : Bool) → a && b ≡ false → a ≡ true → b ≡ false
not_with true b e h = e
not_with false b e h = absurd (let z : ◌≡◌ {A = ℕ} 0 1 = cc in omega arith)

pub inside : (lo hi n : ℕ) → outside lo hi n ≡ false → Within lo hi n
inside lo hi n e = record { least = grind arith; most = grind arith }

pub is_zero : (n : ℕ) → nonzero n ≡ false → n ≡ 0
is_zero n e = grind arith

-- The first of the entries, and those after it.
below_front : (t : ℕ → Bool) (n : ℕ) → any_below t (suc n) ≡ t 0 || any_below (λ i. t (suc i)) n
below_front t zero = sym (or-false (t 0))
below_front t (suc n) = ap (λ b. b || t (suc n)) (below_front t n) ∙ or_assoc (t 0) (any_below (λ i. t (suc i)) n) (t (suc n))

below_same : (t u : ℕ → Bool) (n : ℕ) → ((i : ℕ) → t i ≡ u i) → any_below t n ≡ any_below u n
below_same t u n h = λ j. any_below (λ i. h i j) n

-- A test of each crane and of its place, one after the other, and of all eight.
any_from : (t : ℕ → Crane → Bool) (k : ℕ) (cs : List Crane) → list_any (λ p. t p.0 p.1) (enumerate_from k cs) ≡ any_below (λ i. t (k + i) (get_or cs i no_crane)) (length cs)
any_from t k [] = refl
any_from t k (c ∷ cs) =
    ap₂ ◌||◌ (ap (λ m. t m c) (omega arith))
    (any_from t (k + 1) cs ∙ below_same _ (λ i. t (k + suc i) (get_or cs i no_crane)) (length cs) (λ i. ap (λ m. t m (get_or cs i no_crane)) (omega arith)))
    ∙ sym (below_front (λ i. t (k + i) (get_or (c ∷ cs) i no_crane)) (length cs))

pub any_place : (t : ℕ → Crane → Bool) (cs : List Crane) → length cs ≡ 8 → list_any (λ p. t p.0 p.1) (enumerate_from 0 cs) ≡ any_below (λ i. t i (get_or cs i no_crane)) 8
any_place t cs eight =
    any_from t 0 cs ∙ below_same _ _ (length cs) (λ i. ap (λ m. t m (get_or cs i no_crane)) (omega arith)) ∙ ap (any_below (λ i. t i (get_or cs i no_crane))) eight

-- A test of each crane alone.
any_entry : (t : Crane → Bool) (cs : List Crane) → list_any t cs ≡ any_below (λ i. t (get_or cs i no_crane)) (length cs)
any_entry t [] = refl
any_entry t (c ∷ cs) = ap (λ b. t c || b) (any_entry t cs) ∙ sym (below_front (λ i. t (get_or (c ∷ cs) i no_crane)) (length cs))

pub any_crane : (t : Crane → Bool) (cs : List Crane) → length cs ≡ 8 → list_any t cs ≡ any_below (λ i. t (get_or cs i no_crane)) 8
any_crane t cs eight = any_entry t cs ∙ ap (any_below (λ i. t (get_or cs i no_crane))) eight

-- Each of the entries 0 to n - 1.
last_or_below : (t : ℕ → Bool) (n i : ℕ) → t n ≡ false → (i < n → t i ≡ false) → i < suc n → t i ≡ false
last_or_below t n i last rest h = grind arith

pub none_below : (t : ℕ → Bool) (n : ℕ) → any_below t n ≡ false → (i : ℕ) → i < n → t i ≡ false
none_below t zero e i h = absurd (omega arith)
none_below t (suc n) e i h = let k = neither (any_below t n) (t n) e in last_or_below t n i k.1 (none_below t n k.0 i) h

pub each_used : (t : Engine → Bool) (n : ℕ) (es : List Engine) → any_used t n es ≡ false → (i : ℕ) → i < 4 → i < n → t (get_or es i no_engine) ≡ false
each_used t n es e zero h k = grind arith
each_used t n es e (suc zero) h k = grind arith
each_used t n es e (suc (suc zero)) h k = grind arith
each_used t n es e (suc (suc (suc zero))) h k = grind arith
each_used t n es e (suc (suc (suc (suc i)))) h k = absurd (omega arith)

pub each_unused : (t : Engine → Bool) (n : ℕ) (es : List Engine) → any_unused t n es ≡ false → (i : ℕ) → i < 4 → n ≤ i → t (get_or es i no_engine) ≡ false
each_unused t n es e zero h k = grind arith
each_unused t n es e (suc zero) h k = grind arith
each_unused t n es e (suc (suc zero)) h k = grind arith
each_unused t n es e (suc (suc (suc zero))) h k = grind arith
each_unused t n es e (suc (suc (suc (suc i)))) h k = absurd (omega arith)

-- Four tests, one after the other.
in_turn : (a b c d : Bool) → a || (b || (c || (d || false))) ≡ a || b || c || d
in_turn a b c d = grind arith

-- What holds of any four entries holds of a list of four.
of_four : (P : List Engine → Type 0) → ((a b c d : Engine) → P (a ∷ b ∷ c ∷ d ∷ [])) → (es : List Engine) → length es ≡ 4 → P es
of_four P f [] h = absurd (omega arith)
of_four P f (a ∷ []) h = absurd (omega arith)
of_four P f (a ∷ b ∷ []) h = absurd (omega arith)
of_four P f (a ∷ b ∷ c ∷ []) h = absurd (omega arith)
of_four P f (a ∷ b ∷ c ∷ d ∷ []) h = f a b c d
of_four P f (a ∷ b ∷ c ∷ d ∷ e ∷ es) h = absurd (omega arith)

-- The entries that are used stand first, and the others after them.
pub any_first : (t : Engine → Bool) (n : ℕ) (es : List Engine) → length es ≡ 4 → list_any t (take n es) ≡ any_used t n es
any_first t n = of_four (λ es. list_any t (take n es) ≡ any_used t n es) (go n)
  where
    go : (n : ℕ) (a b c d : Engine) → list_any t (take n (a ∷ b ∷ c ∷ d ∷ [])) ≡ any_used t n (a ∷ b ∷ c ∷ d ∷ [])
    go zero a b c d = refl
    go (suc zero) a b c d = in_turn (t a) false false false
    go (suc (suc zero)) a b c d = in_turn (t a) (t b) false false
    go (suc (suc (suc zero))) a b c d = in_turn (t a) (t b) (t c) false
    go (suc (suc (suc (suc n)))) a b c d =
        let past : (i : ℕ) → i < 4 → ltb i (suc (suc (suc (suc n)))) ≡ true = λ i h. lt-ltb i (suc (suc (suc (suc n)))) (omega arith) in
        rw (take-nil n, past 0 (omega arith), past 1 (omega arith), past 2 (omega arith), past 3 (omega arith)) (in_turn (t a) (t b) (t c) (t d))

pub any_after : (t : Engine → Bool) (n : ℕ) (es : List Engine) → length es ≡ 4 → list_any t (drop n es) ≡ any_unused t n es
any_after t n = of_four (λ es. list_any t (drop n es) ≡ any_unused t n es) (go n)
  where
    go : (n : ℕ) (a b c d : Engine) → list_any t (drop n (a ∷ b ∷ c ∷ d ∷ [])) ≡ any_unused t n (a ∷ b ∷ c ∷ d ∷ [])
    go zero a b c d = in_turn (t a) (t b) (t c) (t d)
    go (suc zero) a b c d = in_turn false (t b) (t c) (t d)
    go (suc (suc zero)) a b c d = in_turn false false (t c) (t d)
    go (suc (suc (suc zero))) a b c d = in_turn false false false (t d)
    go (suc (suc (suc (suc n)))) a b c d =
        let past : (i : ℕ) → i < 4 → leb (suc (suc (suc (suc n)))) i ≡ false = λ i h. lt-leb (suc (suc (suc (suc n)))) i (omega arith) in
        rw (drop-nil n, past 0 (omega arith), past 1 (omega arith), past 2 (omega arith), past 3 (omega arith))

-- Rule 9: the entries that are used, and each of them.
pub engines_inside : (n : ℕ) (es : List Engine) → engines_refused n es ≡ false → Within 1 4 n × ((i : ℕ) → i < n → engine_refused (get_or es i no_engine) ≡ false)
engines_inside n es e =
    let k = neither (outside 1 4 n) (any_used engine_refused n es) e in
    let w = inside 1 4 n k.0 in
    (w, λ i h. each_used engine_refused n es k.1 i (omega arith) h)

pub record Sized (e : Engine) : Type 0 where
  pub low : Within 100 120000 e.mcr.low
  pub high : Within 100 120000 e.mcr.high
  pub limit : nonzero e.limit && outside 100 e.mcr.low e.limit ≡ false

pub engine_inside : (e : Engine) → engine_refused e ≡ false → Sized e
engine_inside e h =
    record {
      low = record { least = grind arith; most = grind arith };
      high = record { least = grind arith; most = grind arith };
      limit = grind arith;
    }

-- A limit is at most the low MCR.
pub limit_most : (e : Engine) → Sized e → e.limit ≤ e.mcr.low
limit_most e z = grind (arith, z.limit)

-- Laws of the two check sums.
-- Assumes nothing.
use Rattle.std.proofs.Common.{◌≡◌, ℕ, suc, ◌+◌, ◌-◌, ◌*◌, ◌/◌, ◌%◌, ◌<◌, List, [], ◌∷◌, length, get_or, drop, sym, ap, ◌∙◌, add-one, arith, length-drop, drop-cons}
use native.Mathlib.Nat.{add-mul-mod_self_left}
use Rattle.fields.specs.Checks.{sums}
use Rattle.fields.specs.declared.Sums.{Sums}

-- The bytes added up.
abbrev pub sum : List ℕ → ℕ
sum [] = 0
sum (x ∷ xs) = x + sum xs

-- Each byte as many times as there are bytes from it on.
abbrev pub weighed : List ℕ → ℕ
weighed [] = 0
weighed (x ∷ xs) = (1 + length xs) * x + weighed xs

-- A factor counts by its rest alone.
times_mod : (n x : ℕ) → n % 65536 * x % 65536 ≡ n * x % 65536
times_mod n x =
    let q = n / 65536 in
    let r = n % 65536 in
    let e : n ≡ 65536 * q + r = omega arith in
    let s : (65536 * q + r) * x ≡ r * x + 65536 * (q * x) = omega arith in
    sym (ap (λ (m : ℕ). m * x % 65536) e ∙ ap (λ (m : ℕ). m % 65536) s ∙ add-mul-mod_self_left (r * x) 65536 (q * x))

-- What is rounded off before an addition is rounded off after it as well.
gather : (b c p t w : ℕ) → p % 65536 ≡ t % 65536 → ((b + c % 65536) % 65536 + (p + w)) % 65536 ≡ (b + c + (t + w)) % 65536
gather b c p t w h = omega (arith, h)

abbrev both : ℕ → ℕ → Sums
both a b = record { a = a; b = b }

two : {a c b d : ℕ} → a ≡ c → b ≡ d → both a b ≡ both c d
two h k = rw (h, k)

-- Both sums with no step waiting for the one before: A is all bytes on top of a, and B has a and the bytes as often as A has them.
sums_at_once : (a b : ℕ) (xs : List ℕ) → a < 65536 → b < 65536
    → sums a b xs ≡ both ((a + sum xs) % 65536) ((b + length xs * a + weighed xs) % 65536)
unfolding sums
sums_at_once a b [] h k = two (omega arith) (omega arith)
sums_at_once a b (x ∷ xs) h k =
    let n = length xs in
    let w = weighed xs in
    let c = (a + x) % 65536 in
    let e : b + (a + x) + ((a + x) * n + w) ≡ b + suc n * a + ((1 + n) * x + w) = omega arith in
    let f : (b + c) % 65536 + n * c + w ≡ (b + c) % 65536 + (c * n + w) = omega arith in
    sums_at_once c ((b + c) % 65536) xs (omega arith) (omega arith)
    ∙ two
    (omega arith)
    (ap (λ (m : ℕ). m % 65536) f ∙ gather b (a + x) (c * n) ((a + x) * n) w (times_mod (a + x) n) ∙ ap (λ (m : ℕ). m % 65536) e)

-- The byte at i, and what is ahead of it.
pub ahead : (xs : List ℕ) (i : ℕ) → i < length xs
    → (sum (drop i xs) ≡ get_or xs i 0 + sum (drop (i + 1) xs)) × (weighed (drop i xs) ≡ (length xs - i) * get_or xs i 0 + weighed (drop (i + 1) xs))
ahead xs i h =
    let n : 1 + length (drop (i + 1) xs) ≡ length xs - i = omega (arith, length-drop (i + 1) xs) in
    (rw (drop-cons xs i 0 h, add-one), rw (drop-cons xs i 0 h, ← n, add-one))

-- One byte more in the second sum.
pub weighed_step : (b n x w : ℕ) → ((b + n % 65536 * x % 65536) % 65536 + w) % 65536 ≡ (b + (n * x + w)) % 65536
weighed_step b n x w = omega (arith, times_mod n x)

-- The sums of a block, which start at 1 and 0.
pub sums_end : {a b : ℕ} (xs : List ℕ) → a ≡ (1 + sum xs) % 65536 → b ≡ (length xs + weighed xs) % 65536 → both a b ≡ sums 1 0 xs
sums_end xs h k = two h (k ∙ omega arith) ∙ sym (sums_at_once 1 0 xs (omega arith) (omega arith))

pub sums_below : (a b : ℕ) (xs : List ℕ) → a < 65536 → b < 65536 → ((sums a b xs).a < 65536) × ((sums a b xs).b < 65536)
unfolding sums
sums_below a b [] h k = (h, k)
sums_below a b (x ∷ xs) h k = sums_below ((a + x) % 65536) ((b + (a + x) % 65536) % 65536) xs (omega arith) (omega arith)

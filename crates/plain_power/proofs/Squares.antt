-- Products with an even exponent, their roots, and the means of two pairs. Assumes nothing.
use mathlib.Core.Path.{◌≡◌, refl, sym, ◌∙◌, ap}
use mathlib.Core.Bool.{Bool, true, false}
use Prim.Native.Nat.{ℕ, zero, suc, ◌+◌, ◌-◌, ◌*◌, ◌/◌, ◌%◌, ◌^◌, ◌≤◌, ◌<◌}
use native.Mathlib.Nat.{pow-suc, mul_comm, mul-le-mul, mul-le-mul_left, mul-le-mul_right, mul-mul-mul_comm, zero-lt-suc}
use native.Mathlib.Numerals.{add-one}
use native.Mathlib.Omega.{arith}
use lib.Dec.{ltb}
use lib.Pow.{pow-add, pow_pos, pow_mono}
use borrow.Author.Tests.{ltb-true, ltb-false}
use Rattle.formula.specs.Words.{if}
use Rattle.formula.specs.Formula.{Frac, ◌//◌, ◌≼◌, ◌·◌, Side, below, above, lies, at_most, at_least}
use Rattle.formula.proofs.Wholes.{square, root_lt}
use Rattle.root.specs.Root.{Root}
use Rattle.root.proofs.Roots.{root_of_is}
use Rattle.plain_power.specs.declared.Num.{Num}
use Rattle.plain_power.specs.declared.Pair.{Pair}
use Rattle.plain_power.specs.declared.Square.{Square}
use Rattle.power.specs.Numbers.{unit}
use Rattle.plain_power.specs.Numbers.{val, Norm}
use Rattle.plain_power.specs.Steps.{next, evened_of, mean_of, means_of}

-- A number as a fraction, and the end of a pair on one side.
abbrev pub fraction : Num → Frac
fraction n = val n // unit

abbrev pub end : Side → Pair → Num
end below p = p.lo
end above p = p.hi

pub val_low : {n : Num} → Norm n → unit ≤ val n
val_low {n} h = mul-le-mul h.low (pow_pos n.e)

pub val_high : {n : Num} → Norm n → val n ≤ 2 ^ 51
val_high h = mul-le-mul h.high (pow_mono h.small)

-- ── An even exponent ────────────────────────────────────────────────────────────────────────

pub twice : (e : ℕ) → 2 ^ (e + 1) ≡ 2 * 2 ^ e
twice e = ap (λ (x : ℕ). 2 ^ x) (add-one e) ∙ pow-suc 2 e ∙ mul_comm (2 ^ e) 2

-- p * 2^e lies between n * 4^f and (n + 1) * 4^f.
pub record Evened (p e : ℕ) (s : Square) : Type 0 where
  pub low : 2 ^ 60 ≤ s.n
  pub high : s.n < 2 ^ 62
  pub small : s.f ≤ 20
  pub at_most : s.n * (2 ^ s.f * 2 ^ s.f) ≤ p * 2 ^ e
  pub next_above : p * 2 ^ e ≤ (s.n + 1) * (2 ^ s.f * 2 ^ s.f)

module _ (p e : ℕ) (low : 2 ^ 60 ≤ p) (high : p ≤ 2 ^ 62) (small : e ≤ 40) where
  -- The square of half the exponent, and what an odd one has besides.
  halves : 2 ^ e ≡ 2 ^ (e % 2) * (2 ^ (e / 2) * 2 ^ (e / 2))
  halves =
      sym (
      ap (λ (x : ℕ). 2 ^ (e % 2) * x) (sym (pow-add 2 (e / 2) (e / 2)))
      ∙ sym (pow-add 2 (e % 2) (e / 2 + e / 2))
      ∙ ap (λ (x : ℕ). 2 ^ x) (omega arith)
      )

  module _ (k n : ℕ) (split : 2 ^ e ≡ k * (2 ^ (e / 2) * 2 ^ (e / 2))) (from : 2 ^ 60 ≤ n) (to : n < 2 ^ 62) where
    same_exponent : n ≤ p * k → p * k ≤ n + 1 → Evened p e (record { n = n; f = e / 2 })
    same_exponent a b =
        let u = 2 ^ (e / 2) * 2 ^ (e / 2) in
        let w = ap (λ (x : ℕ). p * x) split in
        let x = mul-le-mul_right u a in
        let y = mul-le-mul_right u b in
        omega arith

    one_more : e / 2 < 20 → 4 * n ≤ p * k → p * k ≤ 4 * (n + 1) → Evened p e (record { n = n; f = e / 2 + 1 })
    one_more few a b =
        let u = 2 ^ (e / 2) * 2 ^ (e / 2) in
        let w = ap (λ (x : ℕ). p * x) split in
        let x = mul-le-mul_right u a in
        let y = mul-le-mul_right u b in
        record {
          low = from;
          high = to;
          small = omega arith;
          at_most = rw (twice (e / 2)) (omega arith);
          next_above = rw (twice (e / 2)) (omega arith);
        }

  evened_is : Evened p e (evened_of p e)
  unfolding evened_of
  evened_is = go (e % 2) refl halves
    where
      answer : Bool → ℕ → Square
      answer b n = if b (record { n = n; f = e / 2 }) (record { n = n / 4; f = e / 2 + 1 })

      at_even : (b : Bool) → ltb ((p - p / 2 ^ 62) * 1) (2 ^ 62) ≡ b → 2 ^ e ≡ 1 * (2 ^ (e / 2) * 2 ^ (e / 2)) → Evened p e (answer b ((p - p / 2 ^ 62) * 1))
      at_even true t split = let less = ltb-true _ _ t in same_exponent 1 _ split (omega arith) less (omega arith) (omega arith)
      at_even false t split = let full : 2 ^ 62 ≤ (p - p / 2 ^ 62) * 1 = ltb-false _ _ t in absurd (omega arith)

      at_odd : e % 2 ≡ 1 → (b : Bool) → ltb ((p - p / 2 ^ 62) * 2) (2 ^ 62) ≡ b → 2 ^ e ≡ 2 * (2 ^ (e / 2) * 2 ^ (e / 2)) → Evened p e (answer b ((p - p / 2 ^ 62) * 2))
      at_odd h true t split = let less = ltb-true _ _ t in same_exponent 2 _ split (omega arith) less (omega arith) (omega arith)
      at_odd h false t split = let full : 2 ^ 62 ≤ (p - p / 2 ^ 62) * 2 = ltb-false _ _ t in one_more 2 _ split (omega arith) (omega arith) (omega arith) (omega arith) (omega arith)

      go : (r : ℕ) → e % 2 ≡ r → 2 ^ e ≡ 2 ^ r * (2 ^ (e / 2) * 2 ^ (e / 2)) → Evened p e (answer (ltb ((p - p / 2 ^ 62) * 2 ^ r) (2 ^ 62)) ((p - p / 2 ^ 62) * 2 ^ r))
      go zero h = at_even (ltb ((p - p / 2 ^ 62) * 1) (2 ^ 62)) refl
      go (suc zero) h = at_odd h (ltb ((p - p / 2 ^ 62) * 2) (2 ^ 62)) refl
      go (suc (suc r)) h = absurd (omega arith)

-- Nothing is shifted out.
pub shifted : (p e : ℕ) → p ≤ 2 ^ 62 → (p - p / 2 ^ 62) * 2 ^ (e % 2) < 2 ^ 64
shifted p e high =
    let two : 2 ^ (e % 2) ≤ 2 ^ 1 = pow_mono {j = 1} (omega arith) in
    omega (arith, mul-le-mul_left (p - p / 2 ^ 62) two)

-- ── The mean ────────────────────────────────────────────────────────────────────────────────

-- The root of t lies between r and r with one more in its mantissa.
pub record Mean (t : ℕ) (r : Num) : Type 0 where
  pub low : 2 ^ 30 ≤ r.m
  pub high : r.m < 2 ^ 31
  pub small : r.e ≤ 20
  pub at_most : val r * val r ≤ t
  pub next_above : t ≤ val (next r) * val (next r)

module _ {a b : Num} (na : Norm a) (nb : Norm b) where
  pub product_low : 2 ^ 60 ≤ a.m * b.m
  product_low = mul-le-mul na.low nb.low

  pub product_high : a.m * b.m ≤ 2 ^ 62
  product_high = mul-le-mul na.high nb.high

  pub product_evened : Evened (a.m * b.m) (a.e + b.e) (evened_of (a.m * b.m) (a.e + b.e))
  product_evened = evened_is (a.m * b.m) (a.e + b.e) product_low product_high (omega (arith, na.small, nb.small))

  product_is : a.m * b.m * 2 ^ (a.e + b.e) ≡ val a * val b
  product_is = rw (pow-add 2 a.e b.e) (mul-mul-mul_comm a.m b.m (2 ^ a.e) (2 ^ b.e))

  pub mean_is : Mean (val a * val b) (mean_of a b)
  unfolding mean_of
  mean_is = go (evened_of (a.m * b.m) (a.e + b.e)) product_evened (root_of_is 2 _ (zero-lt-suc 1))
    where
      go : (s : Square) → Evened (a.m * b.m) (a.e + b.e) s → {m : ℕ} → Root 2 s.n m → Mean (val a * val b) (record { m = m; e = s.f })
      go s even {m} root =
          let w = 2 ^ s.f in
          let p = product_is in
          let lo : m * m ≤ s.n = rw (square m) at root.at_most in
          let hi : s.n < (m + 1) * (m + 1) = rw (square (m + 1)) at root.next_above in
          let x = mul-le-mul_right (w * w) lo in
          let y = mul-le-mul_right (w * w) hi in
          let l : 2 ^ 30 < m + 1 = root_lt (2 ^ 30) (m + 1) 2 (omega (arith, root.next_above, even.low)) in
          let h : m < 2 ^ 31 = root_lt m (2 ^ 31) 2 (omega (arith, root.at_most, even.high)) in
          record { low = omega arith; high = h; small = even.small; at_most = omega (arith, even.at_most); next_above = omega (arith, even.next_above) }

-- One more in a mantissa is at most the factor 1 + 2^-30.
pub next_is : (m w : ℕ) → 2 ^ 30 ≤ m → (m + 1) * w * 2 ^ 30 ≤ m * w * (2 ^ 30 + 1)
next_is m w big = omega (arith, mul-le-mul_right w big)

-- What is lost between a number's square and its next one's.
loss : (m w : ℕ) → 2 ^ 30 ≤ m → ((m + 1) * w) * ((m + 1) * w) * (2 ^ 30) ^ 2 ≤ m * w * (m * w) * (2 ^ 30 + 1) ^ 2
loss m w big = let x = next_is m w big in omega (arith, mul-le-mul x x)

-- The means of p and y: each on its side of the root, and losing at most the factor 1 + 2^-30.
pub record Means (p y r : Pair) : Type 0 where
  pub norm : (s : Side) → Norm (end s r)
  pub holds : (s : Side) → lies s (fraction (end s r) · fraction (end s r)) (fraction (end s p) · fraction (end s y))
  pub lo_loss : val p.lo * val y.lo * (2 ^ 30) ^ 2 ≤ val r.lo * val r.lo * (2 ^ 30 + 1) ^ 2
  pub hi_loss : val r.hi * val r.hi * (2 ^ 30) ^ 2 ≤ val p.hi * val y.hi * (2 ^ 30 + 1) ^ 2

pub means_are : {p y : Pair} → ((s : Side) → Norm (end s p)) → ((s : Side) → Norm (end s y)) → Means p y (means_of p y)
unfolding means_of
means_are {p} {y} np ny =
    let l = mean_is (np below) (ny below) in
    let h = mean_is (np above) (ny above) in
    let lo = mean_of p.lo y.lo in
    let hi = mean_of p.hi y.hi in
    let down : val (means_of p y).lo * val (means_of p y).lo ≤ val p.lo * val y.lo = l.at_most in
    let up : val p.hi * val y.hi ≤ val (means_of p y).hi * val (means_of p y).hi = h.next_above in
    let low : fraction lo · fraction lo ≼ fraction p.lo · fraction y.lo = omega (arith, down) in
    let high : fraction p.hi · fraction y.hi ≼ fraction (next hi) · fraction (next hi) = omega (arith, up) in
    record {
      norm = elim [ below ↦ omega (arith, l) | above ↦ omega (arith, h) ];
      holds = elim [ below ↦ at_most low | above ↦ at_least high ];
      lo_loss = omega (arith, loss lo.m (2 ^ lo.e) l.low, l.next_above);
      hi_loss = omega (arith, loss hi.m (2 ^ hi.e) h.low, h.at_most);
    }

-- What takes a number to 2^63: digit after digit of an exponent of 2, and it stays below. Assumes nothing.
use mathlib.Core.Path.{◌≡◌, refl, ap}
use mathlib.Core.List.{List}
use Prim.Native.Nat.{ℕ, ◌+◌, ◌-◌, ◌*◌, ◌/◌, ◌^◌, ◌≤◌, ◌<◌}
use native.Mathlib.Nat.{le_trans, le_of_eq, le_of_lt, mul-le-mul_left, mul-le-mul_right, mul-pos, le_of_mul-le-mul_right, zero-add}
use native.Mathlib.Omega.{arith}
use lib.Dec.{lit≤}
use lib.ListN.{get_or}
use Rattle.power.specs.declared.Climb.{Climb}
use Rattle.power.specs.Table.{coarses}
use Rattle.power.specs.Steps.{times_of, first_digit, digit_of, first_of, climbed_of, step_of, second_of, third_of, inverse_slope, short, complement_of}
use Rattle.power.proofs.Twos.{AtMost, AtLeast, most_mul, least_mul, most_down, LeastUp}
use Rattle.power.proofs.Entries.{Factor, Takes, first_left, second_left, third_left, coarse_is, middle_is, fine_is, middle_takes, fine_takes, start_is, rest_least, rest_most}
use Rattle.power.proofs.Products.{times_down, times_up, Grown, none_grown, times_grown}

-- ── No more than 2^63, and near it ──────────────────────────────────────────────────────────

pub record Close (w t : ℕ) : Type 0 where
  pub high : t ≤ 2 ^ 63
  pub near : 2 ^ 63 ≤ t + w

-- What a product of at most u u, and of at least that but for v and w, is in units of u.
close_high : (x y u : ℕ) → 0 < u → y * u ≤ x → x ≤ u * u → y ≤ u
close_high x y u pos h k = le_of_mul-le-mul_right {k = u} (le_trans h k) pos

close_near : (x y u v w : ℕ) → 0 < u → x ≤ (y + 2) * u → u * u ≤ x + v * u + w * u → u ≤ y + 2 + v + w
close_near x y u v w pos h k = le_of_mul-le-mul_right {k = u} (omega arith) pos

-- The digit c of what is left of t to u: t is at most (s - c)/s of u, and at least the next but for g.
step_up : (t d s k u : ℕ) → 0 < s → t * s ≤ u * k → k * d ≤ s * u → t * d ≤ u * u
step_up t d s k u pos h i = le_of_mul-le-mul_right {k = s} (omega (arith, mul-le-mul_right d h, mul-le-mul_left u i)) pos

step_down : (t d s k u w g : ℕ) → 0 < s → u * k ≤ t * s + g * s → s * u ≤ k * d + s * w → u * u ≤ t * d + g * d + w * u
step_down t d s k u w g pos h i = le_of_mul-le-mul_right {k = s} (omega (arith, mul-le-mul_right d h, mul-le-mul_left u i)) pos

digit_up : (s t q c : ℕ) → q + t ≡ 2 ^ 63 → c < s → c * 2 ^ 32 ≤ q / 2 ^ 31 * s → t * s ≤ 2 ^ 63 * (s - c)
digit_up s t q c e less h =
    let k_is : s - c + c ≡ s = omega arith in
    let i : q / 2 ^ 31 * 2 ^ 31 * s ≤ q * s = mul-le-mul_right s (omega arith) in
    let j : (q + t) * s ≡ 2 ^ 63 * s = ap (λ (k : ℕ). k * s) e in
    omega arith

digit_down : (s t q c : ℕ) → q + t ≡ 2 ^ 63 → c < s → q / 2 ^ 31 * s < (c + 1) * 2 ^ 32 → 2 ^ 63 * (s - (c + 1)) ≤ t * s + 2 ^ 31 * s
digit_down s t q c e less h =
    let k_is : s - (c + 1) + (c + 1) ≡ s = omega arith in
    let i : q * s ≤ (q / 2 ^ 31 * 2 ^ 31 + 2 ^ 31) * s = mul-le-mul_right s (omega arith) in
    let j : (q + t) * s ≡ 2 ^ 63 * s = ap (λ (k : ℕ). k * s) e in
    omega arith

wider : {u : ℕ} (x g g' w : ℕ) → u ≤ x + g + w → g ≤ g' → u ≤ x + g' + w
wider x g g' w h k = omega arith

pub taken : (s w t d : ℕ) → 0 < s → t ≤ 2 ^ 63 → d ≤ 2 ^ 64 → Takes s (digit_of s t) w d → Close (w + 2 ^ 32 + 2) (times_of t d)
unfolding digit_of
taken s w t d pos small fits take = go ((2 ^ 63 - t) / 2 ^ 31 * s / 2 ^ 32) (omega arith) (omega arith) take
  where
    go : (c : ℕ) → c * 2 ^ 32 ≤ (2 ^ 63 - t) / 2 ^ 31 * s → (2 ^ 63 - t) / 2 ^ 31 * s < (c + 1) * 2 ^ 32 → Takes s c w d → Close (w + 2 ^ 32 + 2) (times_of t d)
    go c down up take =
        let e : 2 ^ 63 - t + t ≡ 2 ^ 63 = omega arith in
        let a = step_up t d s (s - c) (2 ^ 63) pos (digit_up s t (2 ^ 63 - t) c e take.fits down) take.up in
        let b = step_down t d s (s - (c + 1)) (2 ^ 63) w (2 ^ 31) pos (digit_down s t (2 ^ 63 - t) c e take.fits up) take.down in
        let g : 2 ^ 31 * d ≤ 2 ^ 32 * 2 ^ 63 = omega arith in
        let n : 2 ^ 63 ≤ times_of t d + 2 + 2 ^ 32 + w = close_near (t * d) (times_of t d) (2 ^ 63) (2 ^ 32) w (lit≤ tt) (times_up t d) (wider (t * d) (2 ^ 31 * d) (2 ^ 32 * 2 ^ 63) (w * 2 ^ 63) b g) in
        record { high = close_high (t * d) (times_of t d) (2 ^ 63) (lit≤ tt) (times_down t d) a; near = omega arith }

-- The first digit.
first_close : (m i d : ℕ) → (64 + i) * 2 ^ 56 ≤ m → m < (65 + i) * 2 ^ 56 → (65 + i) * d ≤ 2 ^ 70 → 2 ^ 70 ≤ (64 + i) * d + first_left * 2 ^ 7 → Close (first_left + 2) (times_of m d)
first_close m i d low high up down =
    let a : m * d ≤ 2 ^ 63 * 2 ^ 63 = le_trans (mul-le-mul_right d (le_of_lt high)) (le_trans (le_of_eq (omega arith)) (mul-le-mul_right (2 ^ 56) up)) in
    let b : 2 ^ 70 * 2 ^ 56 ≤ ((64 + i) * d + first_left * 2 ^ 7) * 2 ^ 56 = mul-le-mul_right (2 ^ 56) down in
    let c : (64 + i) * 2 ^ 56 * d ≤ m * d = mul-le-mul_right d low in
    let n : 2 ^ 63 ≤ times_of m d + 2 + 0 + first_left = close_near (m * d) (times_of m d) (2 ^ 63) 0 first_left (lit≤ tt) (times_up m d) (le_trans b (le_trans (le_of_eq (omega arith)) (le_trans (spread ((64 + i) * 2 ^ 56 * d) (m * d) (first_left * 2 ^ 63) c) (le_of_eq (omega arith))))) in
    record { high = close_high (m * d) (times_of m d) (2 ^ 63) (lit≤ tt) (times_down m d) a; near = omega arith }
  where
    spread : (x y w : ℕ) → x ≤ y → x + w ≤ y + w
    spread x y w h = omega arith

-- ── All digits ──────────────────────────────────────────────────────────────────────────────

pub record Reached (m w k : ℕ) (n : Climb) : Type 0 where
  pub close : Close w n.reached
  pub grown : Grown m n.exponent k n.reached

pub first_is : (m : ℕ) → 2 ^ 62 ≤ m → m < 2 ^ 63 → Reached m (first_left + 2) 2 (first_of m)
unfolding first_of
first_is m low high = go (m / 2 ^ 56 - 64) (omega arith) (omega arith) (omega arith)
  where
    go : (i : ℕ) → i < 64 → (64 + i) * 2 ^ 56 ≤ m → m < (65 + i) * 2 ^ 56
        → Reached m (first_left + 2) 2 (record { reached = times_of m (get_or coarses (first_digit i) 0); exponent = first_digit i * 2 ^ 27 })
    go i less from to =
        let s = start_is i less in
        let c = first_digit i in
        let close = first_close m i (get_or coarses c 0) from to s.up s.down in
        let enough : 2 ^ 62 ≤ times_of m (get_or coarses c 0) = omega (arith, close.near) in
        record { close = close; grown = rw (zero-add (c * 2 ^ 27)) at (times_grown (omega arith) enough (none_grown m) (coarse_is c s.few)) }

step_is : {m w k : ℕ} (n : Climb) (s : ℕ) (part : List ℕ) (worth W : ℕ) → 0 < s → 0 < m → W ≤ 2 ^ 60 → Reached m w k n
    → Factor (digit_of s n.reached * worth) (get_or part (digit_of s n.reached) 0)
    → Takes s (digit_of s n.reached) W (get_or part (digit_of s n.reached) 0) → Reached m (W + 2 ^ 32 + 2) (k + 2) (step_of n s part worth)
unfolding step_of climbed_of
step_is {m} {w} {k} n s part worth W pos mpos small r f takes =
    let d = get_or part (digit_of s n.reached) 0 in
    let close = taken s W n.reached d pos r.close.high (le_of_lt f.high) takes in
    let enough : 2 ^ 62 ≤ times_of n.reached d = omega (arith, close.near) in
    record { close = close; grown = times_grown mpos enough r.grown f }

pub second_few : (t : ℕ) → Close (first_left + 2) t → digit_of 1477 t < 50
unfolding digit_of
second_few t c = omega (arith, c.near)

pub third_few : (t : ℕ) → Close (second_left + 2 ^ 32 + 2) t → digit_of 47274 t < 61
unfolding digit_of
third_few t c = omega (arith, c.near)

module _ (m : ℕ) (low : 2 ^ 62 ≤ m) (high : m < 2 ^ 63) where
  pub second_is : Reached m (second_left + 2 ^ 32 + 2) 4 (second_of m)
  second_is =
      let r = first_is m low high in
      step_is (first_of m) _ _ _ second_left (lit≤ tt) (omega arith) (lit≤ tt) r (middle_is _ (second_few _ r.close)) (middle_takes _ (second_few _ r.close))

  pub third_is : Reached m (third_left + 2 ^ 32 + 2) 6 (third_of m)
  third_is = step_is (second_of m) _ _ _ third_left (lit≤ tt) (omega arith) (lit≤ tt) second_is (fine_is _ (third_few _ second_is.close)) (fine_takes _ (third_few _ second_is.close))

  -- The exponent stays small.
  pub first_exponent : (first_of m).exponent ≤ 2 ^ 32
  unfolding first_of
  first_exponent = omega (arith, (start_is (m / 2 ^ 56 - 64) (omega arith)).few)

  pub second_exponent : (second_of m).exponent ≤ 2 ^ 33
  unfolding step_of climbed_of
  second_exponent = omega (arith, first_exponent, second_few _ (first_is m low high).close)

  pub third_exponent : (third_of m).exponent ≤ 2 ^ 34
  unfolding step_of climbed_of
  third_exponent = omega (arith, second_exponent, third_few _ second_is.close)

-- What takes m to 2^63.
pub record Complement (m g : ℕ) : Type 0 where
  pub most : AtMost (2 ^ 63) m (g + short) (2 ^ 32)
  pub least : AtLeast (2 ^ 63 * (2 ^ 61 + 1) ^ 6) (m * (2 ^ 61) ^ 6) g (2 ^ 32)

complement_order : (t P u m Q : ℕ) → t * P * u * (m * Q) ≤ u * P * (m * Q * t)
complement_order t P u m Q = omega arith

complement_sum : (m w : ℕ) (n : Climb) → 0 < m → w ≤ third_left + 2 ^ 32 + 2 → Reached m w 6 n → Complement m (n.exponent + (2 ^ 63 - n.reached) / 2 ^ 20 * inverse_slope / 2 ^ 43)
complement_sum m w n pos small r = go n.reached n.exponent r.close.high (omega (arith, r.close.near)) (omega (arith, r.close.near)) r.grown
  where
    go : (t e : ℕ) → t ≤ 2 ^ 63 → 2 ^ 63 - t ≤ third_left + 2 ^ 32 + 2 → 0 < t → Grown m e 6 t → Complement m (e + (2 ^ 63 - t) / 2 ^ 20 * inverse_slope / 2 ^ 43)
    go t e high near tpos g =
        let q = 2 ^ 63 - t in
        let x = q / 2 ^ 20 * inverse_slope in
        let k = x / 2 ^ 43 in
        let whole : q + t ≡ 2 ^ 63 = omega arith in
        let down : k * 2 ^ 43 ≤ x = omega arith in
        let up : x < (k + 1) * 2 ^ 43 = omega arith in
        let sum : e + (k + short) ≡ e + k + short = omega arith in
        let a : AtMost (2 ^ 63) m (e + (k + short)) (2 ^ 32) = most_down (mul-pos pos tpos) (omega arith) (most_mul g.most (rest_most q t k near whole down up)) in
        record {
          most = rw sum at a;
          least = LeastUp (mul-pos (mul-pos pos (lit≤ tt)) tpos) (complement_order t ((2 ^ 61 + 1) ^ 6) (2 ^ 63) m ((2 ^ 61) ^ 6)) (least_mul g.least (rest_least q t k tpos whole down));
        }

pub complement_is : (m : ℕ) → 2 ^ 62 ≤ m → m < 2 ^ 63 → (g : ℕ) × Complement m g × (complement_of m ≡ g + short)
unfolding complement_of
complement_is m low high = (_, complement_sum m (third_left + 2 ^ 32 + 2) (third_of m) (omega arith) (lit≤ tt) (third_is m low high), refl)

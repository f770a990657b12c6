-- The two roundings of an index: what fits, how near they are, and that they grow and fall with their parts. Assumes nothing.
use mathlib.Core.Path.{◌≡◌, refl}
use Prim.Native.Nat.{ℕ, zero, suc, ◌+◌, ◌*◌, ◌/◌, ◌^◌, ◌≤◌, ◌<◌}
use native.Mathlib.Nat.{le_trans, lt_of_le_of_lt, lt_of_lt_of_le, mul-pos, mul-le-mul, mul-le-mul_left, mul-le-mul_right, pow-le-pow_right}
use native.Mathlib.Omega.{arith}
use lib.Dec.{lit<, lit≤}
use Rattle.number.specs.Division.{Divisible, Floor, Ceil, ceil_of}
use Rattle.number.proofs.Divisions.{floor_is, ceil_is, ceil_least, floor_order, ceil_order, floor_unique, ceil_unique, floor_cancel, ceil_cancel, floor_floor, ceil_ceil}
use Rattle.number.proofs.Gaps.{Gap, gap_product, gap_rounded, gap_cut}
use Rattle.ship.specs.Accepted.{Within}
use Rattle.index.specs.Attained.{millionths_down, millionths_up, index_down, index_up, Sized}

-- ── Sizes ───────────────────────────────────────────────────────────────────────────────────

module _ {c : ℕ} (w : Within (2 ^ 30) (4156 * 2 ^ 30) c) where
  down : Floor (c * 1000000) (2 ^ 30) (millionths_down c)
  down = floor_is (c * 1000000) (2 ^ 30) (lit< tt)

  up : Ceil (c * 1000000) (2 ^ 30) (millionths_up c)
  up = ceil_is (c * 1000000) (2 ^ 30) (lit< tt)

  pub down_within : Within 1000000 4156000000 (millionths_down c)
  down_within = record { least = omega (arith, w.least, down.next_above); most = omega (arith, w.most, down.at_most) }

  pub up_within : Within 1000000 4156000000 (millionths_up c)
  up_within = record { least = omega (arith, w.least, up.at_least); most = omega (arith, w.most, up.previous_below) }

module _ {n load v c : ℕ} (z : Sized n load v c) where
  pub work_low : 1330000000000 ≤ load * v
  work_low = mul-le-mul z.loaded.least z.moving.least

  pub work_high : load * v ≤ 1487640000000000000
  work_high = mul-le-mul z.loaded.most z.moving.most

  pub work_some : 0 < load * v
  work_some = omega (arith, work_low)

  enough : n * 10 ^ 15 < 2 ^ 63 * (load * v)
  enough = lt_of_le_of_lt (mul-le-mul_right (10 ^ 15) z.emitted) (lt_of_lt_of_le (lit< tt) (mul-le-mul_left (2 ^ 63) work_low))

  -- The thousandfold of n fits its word, and six digits more or twelve fit the quotient's.
  in_digits : n * 1000 * 1000000 ^ 2 ≡ n * 10 ^ 15
  in_digits = omega arith

  pub divisible : (digits : ℕ) → digits ≤ 2 → Divisible (n * 1000) (load * v) 1000000 digits
  divisible digits few =
      let most : n * 1000 * 1000000 ^ digits ≤ n * 1000 * 1000000 ^ 2 = mul-le-mul_left (n * 1000) (pow-le-pow_right (lit< tt) few) in
      record { some = work_some; based = lit< tt; narrow = lit≤ tt; moderate = omega (arith, work_high); quotient_fits = lt_of_le_of_lt most (rw in_digits enough) }

  pub up_some : 0 < load * v * millionths_up c
  up_some = mul-pos work_some (omega (arith, (up_within z.factored).least))

  pub down_some : 0 < load * v * millionths_down c
  down_some = mul-pos work_some (omega (arith, (down_within z.factored).least))

  pub lower_floor : Floor (n * 10 ^ 15) (load * v * millionths_up c) (index_down n load v c)
  unfolding index_down
  lower_floor = floor_is _ _ up_some

  pub upper_ceil : Ceil (n * 10 ^ 15) (load * v * millionths_down c) (index_up n load v c)
  unfolding index_up
  upper_ceil = ceil_is _ _ down_some

  -- Two roundings the same way are one.
  pub lower_by_factor : {q : ℕ} → Floor (n * 1000 * 1000000 ^ 2) (load * v) q → q / millionths_up c ≡ index_down n load v c
  lower_by_factor {q} f =
      let g : Floor (n * 10 ^ 15) (load * v) q = rw (← in_digits) f in
      floor_unique (floor_floor g (floor_is _ _ (omega (arith, (up_within z.factored).least)))) lower_floor

  pub upper_by_factor : {q : ℕ} → Ceil (n * 1000 * 1000000 ^ 2) (load * v) q → ceil_of q (millionths_down c) ≡ index_up n load v c
  upper_by_factor {q} f =
      let g : Ceil (n * 10 ^ 15) (load * v) q = rw (← in_digits) f in
      ceil_unique (ceil_ceil g (ceil_is _ _ (omega (arith, (down_within z.factored).least)))) upper_ceil

  -- A factor of a million millionths and six of the fifteen digits drop out.
  pub lower_alone : {q : ℕ} → c ≡ 2 ^ 30 → Floor (n * 1000 * 1000000 ^ 1) (load * v) q → q ≡ index_down n load v c
  lower_alone e f = floor_unique f (floor_cancel 1000000 (lit< tt) (omega arith) (rw e refl) lower_floor)

  pub upper_alone : {q : ℕ} → c ≡ 2 ^ 30 → Ceil (n * 1000 * 1000000 ^ 1) (load * v) q → q ≡ index_up n load v c
  upper_alone e f = ceil_unique f (ceil_cancel 1000000 (lit< tt) (omega arith) (rw e refl) upper_ceil)

  -- Below 2^53.
  pub upper_small : index_up n load v c < 2 ^ 53
  upper_small =
      let big : 1330000000000 * 1000000 ≤ load * v * millionths_down c = mul-le-mul work_low (down_within z.factored).least in
      let x : n * 10 ^ 15 ≤ 4511278195489 * (load * v * millionths_down c) = le_trans (mul-le-mul_right (10 ^ 15) z.emitted) (le_trans (lit≤ tt) (mul-le-mul_left 4511278195489 big)) in
      lt_of_le_of_lt (ceil_least upper_ceil 4511278195489 x) (lit< tt)

  -- Above 0, where something is emitted.
  pub upper_some : 0 < n → 0 < index_up n load v c
  upper_some h = go (index_up n load v c) upper_ceil.at_least
    where
      go : (u : ℕ) → n * 10 ^ 15 ≤ u * (load * v * millionths_down c) → 0 < u
      go zero k = omega arith
      go (suc u) k = omega arith

-- ── Order ───────────────────────────────────────────────────────────────────────────────────

-- Less emission, or more speed or factor, gives no larger bound.
pub lower_order : {n n' load v v' c : ℕ} → Sized n load v c → Sized n' load v' c → n ≤ n' → v' ≤ v → index_down n load v c ≤ index_down n' load v' c
lower_order {load = load} {c = c} z z' h k =
    floor_order (mul-le-mul_right (10 ^ 15) h) (mul-le-mul_right (millionths_up c) (mul-le-mul_left load k)) (lower_floor z) (lower_floor z')

pub upper_order : {n n' load v v' c : ℕ} → Sized n load v c → Sized n' load v' c → n ≤ n' → v' ≤ v → index_up n load v c ≤ index_up n' load v' c
upper_order {load = load} {c = c} z z' h k =
    ceil_order (mul-le-mul_right (10 ^ 15) h) (mul-le-mul_right (millionths_down c) (mul-le-mul_left load k)) (upper_ceil z) (upper_ceil z')

-- ── Nearness ────────────────────────────────────────────────────────────────────────────────

last : (lo hi : ℕ) → hi * 1000000000000 ≤ lo * 1000009107478 + 2000009107478 → hi * 100000 ≤ lo * 100000 + hi + 200000
last lo hi h = omega arith

factor_near : {c c' : ℕ} → Within (2 ^ 30) (4156 * 2 ^ 30) c → Within (2 ^ 30) (4156 * 2 ^ 30) c' → Gap 7451 (c * 1000000) (c' * 1000000) → Gap 2007452 (millionths_down c) (millionths_up c')
factor_near w w' near = gap_cut 2000001 (lit< tt) near (down w) (up w') (omega (arith, (down_within w).least))

-- The emission, the speed and the factor are at most 5, 2.1 and 2.007452 millionths apart, together less than a hundred-thousandth.
pub bounds_near : {n n' load v v' c c' : ℕ} → Sized n' load v c → Sized n load v' c' → n' * 1000000 ≤ n * 1000005
    → v' * 1000000 ≤ v * 1000000 + v' + 2000000 → c' * 2 ^ 27 ≤ c * (2 ^ 27 + 1)
    → index_up n' load v c * 100000 ≤ index_down n load v' c' * 100000 + index_up n' load v c + 200000
bounds_near {n} {n'} {load} {v} {v'} {c} {c'} z z' nn vn cn =
    let emission : Gap 5000000 n n' = omega arith in
    let speed : Gap 2100000 v v' = omega (arith, z.moving.least) in
    let factor = factor_near z.factored z'.factored (omega arith) in
    let all : Gap 9107478 (n * (v * millionths_down c)) (n' * (v' * millionths_up c')) = gap_product 21 (lit≤ tt) emission (gap_product 5 (lit≤ tt) speed factor) in
    let ends : Gap 9107478 (n * 10 ^ 15 * (load * v * millionths_down c)) (n' * 10 ^ 15 * (load * v' * millionths_up c')) =
    record { gap = omega (arith, mul-le-mul_left (load * 10 ^ 15) all.gap) } in
    last _ _ (gap_rounded (down_some z) (up_some z') ends (lower_floor z') (upper_ceil z))

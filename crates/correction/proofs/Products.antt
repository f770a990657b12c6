-- The product of the parts of f_j: on which side of the formula it lies, where it is 1, how near its ends are, and what fits.
-- Assumes nothing.
use Prim.Native.Nat.{ℕ, ◌+◌, ◌*◌, ◌^◌, ◌≤◌, ◌<◌}
use native.Mathlib.Nat.{mul-le-mul, mul-le-mul_right, le_trans, lt_of_le_of_lt, suc-pred-eq_of_pos}
use native.Mathlib.Omega.{arith}
use lib.Dec.{lit<, lit≤}
use Rattle.formula.specs.Formula.{Frac, ◌//◌, ◌≼◌, ◌·◌, Side, below, above, lies, at_most, at_least, LiesPower}
use Rattle.formula.proofs.Fractions.{◌≈◌, lies-≈, lies_trans, lies-·}
use Rattle.formula.proofs.Formulas.{power_between}
use Rattle.formula.proofs.Powers.{power_below}
use Rattle.number.specs.Division.{Floor, Ceil}
use Rattle.number.specs.Product.{scaled_down, scaled_up}
use Rattle.number.proofs.Divisions.{floor_is, ceil_is, floor_greatest, ceil_least}
use Rattle.number.proofs.Gaps.{Gap, gap_product, gap_times, gap_more, gap_cut}
use Rattle.number.proofs.Products.{scaled_floor, scaled_ceil, scaled_order, scaled_gap}
use Rattle.power.specs.declared.Bounds.{Bounds}
use Rattle.power.specs.Numbers.{unit}
use Rattle.propeller.proofs.Sides.{at}
use Rattle.correction.specs.Correction.{Between, WithinLimits, Scalable, squared_of, scaled_of}

-- ── Sides ───────────────────────────────────────────────────────────────────────────────────

-- n / d times p / 2^30.
module _ (n p d : ℕ) (pos : 0 < d) where
  pub scaled_below : scaled_down n p // d ≼ p // unit · n // d
  scaled_below = record { cross = rw (suc-pred-eq_of_pos pos) (omega (arith, mul-le-mul_right d (scaled_floor n p).at_most)) }

  pub scaled_above : p // unit · n // d ≼ scaled_up n p // d
  scaled_above = record { cross = rw (suc-pred-eq_of_pos pos) (omega (arith, mul-le-mul_right d (scaled_ceil n p).at_least)) }

scaled_side : (s : Side) (n p : Bounds) → lies s (at s (scaled_of n p) // unit) (at s p // unit · at s n // unit)
scaled_side below n p = at_most (scaled_below n.lo p.lo unit (lit< tt))
scaled_side above n p = at_least (scaled_above n.hi p.hi unit (lit< tt))

squared_side : (s : Side) (a : Bounds) → lies s (at s (squared_of a) // unit) (174 // 1000 · (at s a // (15 * 2 ^ 26) · at s a // (15 * 2 ^ 26)))
unfolding squared_of
squared_side below a = go a.lo _ _ (floor_is _ _ (lit< tt)) (floor_is _ _ (lit< tt))
  where
    go : (n q x : ℕ) → Floor (n * n) (2 ^ 22) q → Floor (29 * q) 37500 x → lies below (x // unit) (174 // 1000 · (n // (15 * 2 ^ 26) · n // (15 * 2 ^ 26)))
    go n q x f g =
        let c : x // unit ≼ 174 // 1000 · (n // (15 * 2 ^ 26) · n // (15 * 2 ^ 26)) = omega (arith, f.at_most, g.at_most) in
        at_most c
squared_side above a = go a.hi _ _ (ceil_is _ _ (lit< tt)) (ceil_is _ _ (lit< tt))
  where
    go : (n q x : ℕ) → Ceil (n * n) (2 ^ 22) q → Ceil (29 * q) 37500 x → lies above (x // unit) (174 // 1000 · (n // (15 * 2 ^ 26) · n // (15 * 2 ^ 26)))
    go n q x f g =
        let c : 174 // 1000 · (n // (15 * 2 ^ 26) · n // (15 * 2 ^ 26)) ≼ x // unit = omega (arith, f.at_least, g.at_least) in
        at_least c

-- Before it is capped.
abbrev pub uncapped_of : (a y c : Bounds) → Bounds
uncapped_of a y c = scaled_of (squared_of a) (scaled_of y c)

regroup : (s : Side) (g x y c : Frac) → lies s (c · y · (g · x)) (g · (x · y · c))
regroup s g x y c =
    let same : c · y · (g · x) ≈ g · (x · y · c) = omega arith in
    lies-≈ s same

pub product_side : (s : Side) (a y c : Bounds)
    → lies s (at s (uncapped_of a y c) // unit) (174 // 1000 · (at s a // (15 * 2 ^ 26) · at s a // (15 * 2 ^ 26) · at s y // unit · at s c // unit))
product_side s a y c =
    lies_trans
    (scaled_side s (squared_of a) (scaled_of y c))
    (lies_trans (lies-· (scaled_side s y c) (squared_side s a)) (regroup s (174 // 1000) (at s a // (15 * 2 ^ 26) · at s a // (15 * 2 ^ 26)) (at s y // unit) (at s c // unit)))

-- ── Where the product is 1 ──────────────────────────────────────────────────────────────────

scaled_full : (n p x y k : ℕ) → x ≤ n → y ≤ p → k * 2 ^ 30 ≤ x * y → k ≤ scaled_up n p
scaled_full n p x y k hn hp h = omega (arith, (scaled_ceil n p).at_least, mul-le-mul hn hp)

squared_high : (a : Bounds) (m k : ℕ) → m ≤ a.hi → k * 157286400000 ≤ m * m * 29 → k ≤ (squared_of a).hi
unfolding squared_of
squared_high a m k big h = go (ceil_is _ _ (lit< tt)) (ceil_is _ _ (lit< tt))
  where
    go : {q x : ℕ} → Ceil (a.hi * a.hi) (2 ^ 22) q → Ceil (29 * q) 37500 x → k ≤ x
    go f g = omega (arith, f.at_least, g.at_least, mul-le-mul big big)

-- Where 0.174/Fn^2 is at least k and the power of 1/C_b at least r.
full_from : (a y c : Bounds) (m k r : ℕ) → m ≤ a.hi → unit ≤ y.hi → r ≤ c.hi → k * 157286400000 ≤ m * m * 29 → unit * unit ≤ k * r → unit ≤ (uncapped_of a y c).hi
full_from a y c m k r ha hy hc square all =
    scaled_full _ _ k r unit (squared_high a m k ha square) (scaled_full y.hi c.hi unit r r hy hc (omega arith)) all

-- From 1/Fn = 12/5 on, and from 1/C_b = 12 on, where its power is at least 21/10.
pub one_by_speed : (a y c : Bounds) → 36 * 2 ^ 26 ≤ a.hi → unit ≤ y.hi → unit ≤ c.hi → unit ≤ (uncapped_of a y c).hi
one_by_speed a y c ha hy hc = full_from a y c (36 * 2 ^ 26) unit unit ha hy hc (lit≤ tt) (lit≤ tt)

pub one_by_hull : (a y c : Bounds) (r : ℕ) → 25 * 2 ^ 26 ≤ a.hi → unit ≤ y.hi → 12 * 2 ^ 28 ≤ r → LiesPower above (c.hi // unit) (r // (2 ^ 28)) (3 // 10) → unit ≤ (uncapped_of a y c).hi
one_by_hull a y c r ha hy hr p =
    let x : 12 // 1 ≼ r // (2 ^ 28) = omega arith in
    let ten : 0 < 10 = lit< tt in
    let one : 0 < 1 = lit< tt in
    let b : LiesPower below (21 // 10) (12 // 1) (3 // 10) = power_below 21 12 3 ten one ten (lit≤ tt) in
    let z : 21 // 10 ≼ c.hi // unit = power_between b p x in
    full_from a y c (25 * 2 ^ 26) 518000000 2254857830 ha hy (omega (arith, z.cross)) (lit≤ tt) (lit≤ tt)

-- ── How near ────────────────────────────────────────────────────────────────────────────────

squared_few : {a q x : ℕ} → 25 * 2 ^ 26 ≤ a → Floor (a * a) (2 ^ 22) q → Floor (29 * q) 37500 x → (600000000000 ≤ q) × (518000000 ≤ x)
squared_few low f g =
    let sq = mul-le-mul low low in
    let first = floor_greatest f (625 * 2 ^ 30) (omega arith) in
    (omega arith, floor_greatest g 518000000 (omega arith))

squared_low : (a : Bounds) → 25 * 2 ^ 26 ≤ a.lo → 518000000 ≤ (squared_of a).lo
unfolding squared_of
squared_low a low = (squared_few low (floor_is _ _ (lit< tt)) (floor_is _ _ (lit< tt))).1

squared_near : (a : Bounds) (k : ℕ) → k ≤ 900000 → 25 * 2 ^ 26 ≤ a.lo → Gap (10 * (k + 1000)) a.lo a.hi → Gap (20 * k + 24087) (squared_of a).lo (squared_of a).hi
unfolding squared_of
squared_near a k small low h = go (floor_is _ _ (lit< tt)) (floor_is _ _ (lit< tt)) (ceil_is _ _ (lit< tt)) (ceil_is _ _ (lit< tt))
  where
    squares : 10 * (k + 1000) * (10 * (k + 1000)) ≤ 82 * 1000000000000
    squares =
        let x : 10 * (k + 1000) ≤ 9010000 = omega arith in
        omega (arith, mul-le-mul x x)

    go : {q x q' x' : ℕ} → Floor (a.lo * a.lo) (2 ^ 22) q → Floor (29 * q) 37500 x → Ceil (a.hi * a.hi) (2 ^ 22) q' → Ceil (29 * q') 37500 x' → Gap (20 * k + 24087) x x'
    go {q} {q' = q'} f g f' g' =
        let few = squared_few low f g in
        let first : Gap (10 * (k + 1000) + 10 * (k + 1000) + 82 + 5) q q' = gap_cut 5 (lit< tt) (gap_product 82 squares h h) f f' (omega arith) in
        gap_more (omega arith) (gap_cut 4000 (lit< tt) (gap_times 29 first) g g' (omega arith))

module _ (a y c : Bounds) (low : 25 * 2 ^ 26 ≤ a.lo) (y_low : unit ≤ y.lo) (c_low : unit ≤ c.lo) where
  powers_low : unit ≤ scaled_down y.lo c.lo
  powers_low = floor_greatest (scaled_floor y.lo c.lo) unit (mul-le-mul y_low c_low)

  pub product_low : 518000000 ≤ (uncapped_of a y c).lo
  product_low = floor_greatest (scaled_floor _ _) 518000000 (mul-le-mul (squared_low a low) powers_low)

  pub product_near : (k : ℕ) → k ≤ 900000 → Gap (10 * (k + 1000)) a.lo a.hi → Gap (3 * (k + 1000) + 8452) y.lo y.hi → Gap 9571 c.lo c.hi
      → Gap (23 * k + 52000) (uncapped_of a y c).lo (uncapped_of a y c).hi
  product_near k small na ny nc =
      let powers : Gap (3 * (k + 1000) + 8452 + 9571 + 1 + 1900) (scaled_of y c).lo (scaled_of y c).hi =
      scaled_gap y.lo y.hi c.lo c.hi unit 1900 (mul-le-mul y_low c_low) (omega arith) (gap_product 1 (omega arith) ny nc) in
      let squares : Gap (20 * k + 24087) (squared_of a).lo (squared_of a).hi = squared_near a k small low na in
      gap_more (omega arith) (scaled_gap _ _ _ _ 518000000 4000 (mul-le-mul (squared_low a low) powers_low) (omega arith) (gap_product 50 crossed squares powers))
    where
      crossed : (20 * k + 24087) * (3 * (k + 1000) + 8452 + 9571 + 1 + 1900) ≤ 50 * 1000000000000
      crossed =
          let x : 20 * k + 24087 ≤ 18024087 = omega arith in
          let z : 3 * (k + 1000) + 8452 + 9571 + 1 + 1900 ≤ 2722924 = omega arith in
          omega (arith, mul-le-mul x z)

-- ── What fits 64 bits ───────────────────────────────────────────────────────────────────────

scalable : (n p : Bounds) (x y : ℕ) → n.lo ≤ n.hi → p.lo ≤ p.hi → n.hi ≤ x → p.hi ≤ y → x * y < 2 ^ 93 → Scalable n p
scalable n p x y on op hn hp h = record { lows = lt_of_le_of_lt (mul-le-mul (le_trans on hn) (le_trans op hp)) h; highs = lt_of_le_of_lt (mul-le-mul hn hp) h }

squared_tops : (a : Bounds) → WithinLimits a → ((squared_of a).lo ≤ (squared_of a).hi) × ((squared_of a).hi ≤ 1100000000)
unfolding squared_of
squared_tops a f = (omega (arith, mul-le-mul f.order f.order), omega (arith, mul-le-mul f.high f.high))

module _ {y c : Bounds} (hy : Between unit (3 * unit) y) (hc : Between unit (3 * unit) c) where
  pub powers_scalable : Scalable y c
  powers_scalable = scalable y c (3 * unit) (3 * unit) hy.order hc.order hy.high hc.high (lit< tt)

  pub product_scalable : {a : Bounds} → WithinLimits a → Scalable (squared_of a) (scaled_of y c)
  product_scalable {a} f =
      let top : scaled_up y.hi c.hi ≤ 9 * unit = ceil_least (scaled_ceil _ _) (9 * unit) (mul-le-mul hy.high hc.high) in
      scalable _ _ 1100000000 (9 * unit) (squared_tops a f).0 (scaled_order _ _ _ _ hy.order hc.order) (squared_tops a f).1 top (lit< tt)

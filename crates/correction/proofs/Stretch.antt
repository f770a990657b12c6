-- The power 3/10 of what stands between two fractions. Assumes nothing.
use mathlib.Core.Path.{◌≡◌}
use Prim.Native.Nat.{ℕ, ◌+◌, ◌-◌, ◌*◌, ◌^◌, ◌≤◌, ◌<◌}
use native.Mathlib.Nat.{mul-le-mul, mul-le-mul_left, le_of_mul-le-mul_right, suc-pred-eq_of_pos}
use native.Mathlib.Omega.{arith}
use lib.Dec.{lit<, lit≤}
use Rattle.formula.specs.Formula.{◌//◌, ◌≼◌, ◌·◌, below, above, at_least, LiesPower}
use Rattle.formula.proofs.Fractions.{◌≈◌, lies-≈}
use Rattle.formula.proofs.Powers.{power_base, power_out}
use Rattle.number.specs.Division.{Ceil}
use Rattle.number.proofs.Divisions.{ceil_is, ceil_least}
use Rattle.number.proofs.Gaps.{Gap, gap_more, gap_trans}
use Rattle.power.specs.declared.Bounds.{Bounds}
use Rattle.power.specs.Numbers.{unit}
use Rattle.power.specs.Power.{Raisable, power_of, Power}
use Rattle.power.proofs.Laws.{in_words, capped, power_law}
use Rattle.propeller.specs.Propeller.{pair}
use Rattle.correction.specs.Correction.{Between, Spread, raised_of}
use Rattle.correction.proofs.Exponents.{power_product, power_stretch, power_gap}

-- The lower end of the power of a / u, and the upper end of that of b / u.
pub record Raised (u a b : ℕ) (r : Bounds) : Type 0 where
  pub encloses_below : LiesPower below (r.lo // unit) (a // u) (3 // 10)
  pub encloses_above : LiesPower above (r.hi // unit) (b // u) (3 // 10)
  pub size : Between unit (3 * unit) r
  pub near : (m : ℕ) → m ≤ 1000000 → Gap (10 * m) a b → Gap (3 * m + 8452) r.lo r.hi

raisable : {u a b : ℕ} → Spread u a b → Raisable a u 3 10
raisable s = record { some = s.some; from_one = s.from_one; moderate = omega (arith, s.moderate); small = s.small; part = lit< tt; fine = lit< tt }

-- ── The stretch ─────────────────────────────────────────────────────────────────────────────

stretched : (u a d y g : ℕ) → 0 < u → 0 < a → y * (3 * d) ≤ g * (10 * a) → LiesPower above (y // unit) (a // u) (3 // 10) → LiesPower above ((y + g) // unit) ((a + d) // u) (3 // 10)
stretched u a d y g upos pos h p =
    let pos10 : 0 < 10 * a = omega arith in
    let base : a // u · (a + d) // a ≈ (a + d) // u = record { cross = rw (suc-pred-eq_of_pos pos, suc-pred-eq_of_pos upos) (omega arith) } in
    let out : y // unit · (10 * a + 3 * d) // (10 * a) ≼ (y + g) // unit = record { cross = rw (suc-pred-eq_of_pos pos10) (omega arith) } in
    power_out (at_least out) (power_base (power_product p (power_stretch a d pos)) (lies-≈ above base))

-- How far it goes.
stretched_near : (m a d y g : ℕ) → 0 < a → unit ≤ y → g * (10 * a) < y * (3 * d) + 10 * a → Gap (10 * m) a (a + d) → Gap (3 * m + 1000) y (y + g)
stretched_near m a d y g pos low c h =
    let x : d * 1000000000000 ≤ a * (10 * m) = omega (arith, h.gap) in
    let z : y * 3 * (d * 1000000000000) ≤ y * 3 * (a * (10 * m)) = mul-le-mul_left (y * 3) x in
    let w : g * 1000000000000 ≤ 3 * m * y + 1000000000000 = le_of_mul-le-mul_right {k = 10 * a} (omega arith) (omega arith) in
    record { gap = omega arith }

-- ── The power, and its stretch by g ─────────────────────────────────────────────────────────

module _ {u a g : ℕ} {y : Bounds} (d : ℕ) (upos : 0 < u) (from : u ≤ a) (few : a ≤ 12 * u) (half : 2 * d ≤ a) (p : Power a u 3 10 y) (c : Ceil (y.hi * (3 * d)) (10 * a) g) where
  -- 12 to the power 3/10 is at most 11/5.
  y_high : y.hi ≤ 2400000000
  y_high =
      let low : y.lo * 5 ≤ 11 * unit = capped y.lo unit a u 3 10 12 1 11 5 (lit< tt) upos (lit< tt) (lit< tt) (lit< tt) (omega arith) (lit≤ tt) p.encloses_below in
      omega (arith, p.near)

  g_high : g ≤ 2 ^ 29
  g_high =
      let x : y.hi * (2 * d) ≤ 2400000000 * a = mul-le-mul y_high half in
      ceil_least c (2 ^ 29) (omega arith)

  raised_is : Raised u a (a + d) (pair y.lo (y.hi + g))
  raised_is =
      let pos : 0 < a = omega arith in
      record {
        encloses_below = in_words _ _ _ _ _ _ p.encloses_below;
        encloses_above = stretched u a d y.hi g upos pos c.at_least (in_words _ _ _ _ _ _ p.encloses_above);
        size = record { low = p.low; order = omega (arith, p.order); high = omega (arith, y_high, g_high) };
        near = near;
      }
    where
      near : (m : ℕ) → m ≤ 1000000 → Gap (10 * m) a (a + d) → Gap (3 * m + 8452) y.lo (y.hi + g)
      near m small h =
          let more : Gap (3 * m + 1000) y.hi (y.hi + g) = stretched_near m a d y.hi g (omega arith) (omega (arith, p.low, p.order)) c.previous_below h in
          gap_more (omega arith) (gap_trans 1 (omega arith) (power_gap p) more)

-- ── By name ─────────────────────────────────────────────────────────────────────────────────

module _ {u a b : ℕ} (s : Spread u a b) where
  half : 2 * (b - a) ≤ a
  half = omega (arith, s.near, s.order)

  some : 0 < 10 * a
  some = omega (arith, s.some, s.from_one)

  pub raised_law : Raised u a b (raised_of u a b)
  unfolding raised_of
  raised_law =
      let same : a + (b - a) ≡ b = omega (arith, s.order) in
      rw same at (raised_is (b - a) s.some s.from_one s.moderate half (power_law (raisable s)) (ceil_is _ _ some))

  -- What fits 64 bits.
  pub stretch_fits : (power_of a u 3 10).hi * (3 * (b - a)) ≤ 16000000000000000000
  stretch_fits =
      let x : 3 * (b - a) ≤ 6442450944 = omega (arith, s.near, s.order, s.small) in
      let y : (power_of a u 3 10).hi ≤ 2400000000 = y_high (b - a) s.some s.from_one s.moderate half (power_law (raisable s)) (ceil_is _ _ some) in
      omega (arith, mul-le-mul y x)

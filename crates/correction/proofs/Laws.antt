-- The laws of f_j by name: what its users may know of it. Assumes nothing.
use mathlib.Core.Path.{◌≡◌}
use Prim.Native.Nat.{ℕ, ◌+◌, ◌*◌, ◌^◌, ◌≤◌, ◌<◌}
use native.Mathlib.Nat.{lt_of_not-le, le_trans}
use native.Mathlib.Omega.{arith}
use lib.Dec.{lit<, lit≤}
use Rattle.formula.specs.Formula.{◌//◌, below, above, Formula, lit, ◌⊗◌, ◌⊘◌, ◌↑◌, bounds, Enclosed}
use Rattle.formula.proofs.Formulas.{consistent, enclosed_wider, enclosed_product}
use Rattle.exact.specs.Ship.{Hull}
use Rattle.exact.specs.Index.{corrected}
use Rattle.number.specs.Product.{scaled_down, scaled_up}
use Rattle.number.proofs.Gaps.{Gap, gap_times, gap_at_most}
use Rattle.number.proofs.Products.{scaled_gap}
use Rattle.power.specs.declared.Bounds.{Bounds}
use Rattle.power.specs.Numbers.{unit}
use Rattle.ship.specs.Accepted.{Shaped}
use Rattle.propeller.specs.Propeller.{Speed}
use Rattle.correction.specs.Correction.{Fast, WithinLimits, inverse_froude, inverse_block, speed_part, hull_part, capped_of, product_of, general_of, Corrected}
use Rattle.correction.proofs.Stretch.{Raised, raised_law}
use Rattle.correction.proofs.Froude.{froude_above, froude_below, froude_limits, froude_spread, froude_near}
use Rattle.correction.proofs.Block.{block_low, block_above, block_below, block_spread, block_near}
use Rattle.correction.proofs.Shape.{formula_side, capped_below, capped_above}
use Rattle.correction.proofs.Products.{uncapped_of, product_side, one_by_speed, one_by_hull, product_low, product_near, scaled_below, scaled_above}

-- ── Before the cap ──────────────────────────────────────────────────────────────────────────

-- From above only where the upper end is less than 1: then 1/Fn is below 12/5 and 1/C_b below 12.
module _ (a y c : Bounds) (n : ℕ) (size : WithinLimits a) (py : Raised (15 * 2 ^ 26) a.lo a.hi y) (pc : Raised (2 ^ 28) n (n + 1) c) (low : 2 ^ 28 ≤ n) where
  uncapped_below : {F C : Formula} → bounds above F ((15 * 2 ^ 26) // a.lo) → bounds above C ((2 ^ 28) // n)
      → bounds below (lit (174 // 1000) ⊘ (F ↑ (23 // 10) ⊗ C ↑ (3 // 10))) ((uncapped_of a y c).lo // unit)
  uncapped_below bF bC =
      formula_side below a.lo (15 * 2 ^ 26) y.lo n (2 ^ 28) c.lo unit
      (omega (arith, size.low)) (lit< tt) (omega (arith, py.size.low)) (omega arith) (lit< tt) (omega (arith, pc.size.low))
      bF bC py.encloses_below pc.encloses_below (product_side below a y c)

  uncapped_above : {F C : Formula} → (a.hi < 36 * 2 ^ 26 → bounds below F ((15 * 2 ^ 26) // a.hi)) → (n < 12 * 2 ^ 28 → bounds below C ((2 ^ 28) // (n + 1)))
      → (uncapped_of a y c).hi < unit → bounds above (lit (174 // 1000) ⊘ (F ↑ (23 // 10) ⊗ C ↑ (3 // 10))) ((uncapped_of a y c).hi // unit)
  uncapped_above bF bC less =
      formula_side above a.hi (15 * 2 ^ 26) y.hi (n + 1) (2 ^ 28) c.hi unit
      (omega (arith, size.low, size.order)) (lit< tt) (omega (arith, y_low)) (omega arith) (lit< tt) (omega (arith, c_low))
      (bF (lt_of_not-le (λ k. not_full (one_by_speed a y c k y_low c_low))))
      (bC (lt_of_not-le (λ k. not_full (one_by_hull a y c (n + 1) (le_trans size.low size.order) y_low (omega arith) pc.encloses_above))))
      py.encloses_above pc.encloses_above (product_side above a y c)
    where
      y_low : unit ≤ y.hi
      y_low = le_trans py.size.low py.size.order

      c_low : unit ≤ c.hi
      c_low = le_trans pc.size.low pc.size.order

      not_full : unit ≤ (uncapped_of a y c).hi → ⊥
      not_full k = omega arith

-- ── f_j of a general cargo ship ─────────────────────────────────────────────────────────────

module _ {v : Bounds} {h : Hull} (fast : Fast v) (shaped : Shaped h) where
  size : WithinLimits (inverse_froude v h)
  size = froude_limits shaped fast

  pub by_speed : Raised (15 * 2 ^ 26) (inverse_froude v h).lo (inverse_froude v h).hi (speed_part v h)
  by_speed = raised_law (froude_spread shaped fast)

  pub by_hull : Raised (2 ^ 28) (inverse_block h) (inverse_block h + 1) (hull_part h)
  by_hull = raised_law (block_spread shaped)

  encloses : {e : Formula} → Enclosed e (v.lo // 1000000) (v.hi // 1000000) → Enclosed (corrected e h) ((general_of v h).lo // unit) ((general_of v h).hi // unit)
  unfolding corrected general_of product_of
  encloses x =
      record {
        low =
            capped_below _ _ (lit< tt)
            (uncapped_below _ _ _ _ size by_speed by_hull (block_low shaped) (froude_above shaped fast x.high) (block_above shaped));
        high =
            capped_above _ _ (lit< tt)
            (uncapped_above _ _ _ _ size by_speed by_hull (block_low shaped) (λ less. froude_below shaped fast less x.low) (block_below shaped));
      }

  ends : (500000000 ≤ (general_of v h).lo) × ((general_of v h).hi ≤ unit)
  unfolding general_of product_of
  ends = (capped_low _ (product_low (inverse_froude v h) (speed_part v h) (hull_part h) size.low by_speed.size.low by_hull.size.low), omega arith)
    where
      capped_low : (n : ℕ) → 518000000 ≤ n → 500000000 ≤ capped_of n
      capped_low n h = omega arith

  pub general_law : {e : Formula} → Enclosed e (v.lo // 1000000) (v.hi // 1000000) → Corrected (corrected e h) (general_of v h)
  general_law {e} x =
      let both = encloses x in
      let le = consistent (corrected e h) both.low both.high in
      record { encloses = both; low = ends.0; order = omega (arith, le.cross); high = ends.1 }

  -- The gap is 2.3 times that of the speed, and 5.2 hundred-millionths.
  pub general_near : (k : ℕ) → k ≤ 900000 → Gap (10 * k) v.lo v.hi → Gap (23 * k + 52000) (general_of v h).lo (general_of v h).hi
  unfolding general_of product_of
  general_near k small near =
      let a = froude_near shaped fast k small near in
      gap_at_most unit
      (product_near _ _ _ size.low by_speed.size.low by_hull.size.low k small a (by_speed.near (k + 1000) (omega arith) a) (by_hull.near 373 (lit≤ tt) (block_near shaped)))

  -- Where f_j is 1, the upper end is 1.
  pub general_full : {e : Formula} → Enclosed e (v.lo // 1000000) (v.hi // 1000000) → bounds below (corrected e h) (1 // 1) → (general_of v h).hi ≡ unit
  general_full {e} x one =
      let law = general_law x in
      let le = consistent (corrected e h) one law.encloses.high in
      omega (arith, le.cross, law.high)

-- At most 1, whatever the speed and the hull.
pub general_capped : (v : Bounds) (h : Hull) → ((general_of v h).lo ≤ unit) × ((general_of v h).hi ≤ unit)
unfolding general_of product_of
general_capped v h = (omega arith, omega arith)

-- A speed by any method is one.
pub fast_of : {e : Formula} {v : Bounds} → Speed e v → Fast v
fast_of {e} s =
    let le = consistent e s.encloses.low s.encloses.high in
    record { low = s.slow; order = omega (arith, le.cross); high = s.fast }

-- ── Emissions times a factor ────────────────────────────────────────────────────────────────

-- n is in units of 1 / k.
pub scaled_encloses : {E F : Formula} (n k : ℕ) (f : Bounds) → 0 < k → Enclosed E (n // k) (n // k) → Enclosed F (f.lo // unit) (f.hi // unit)
    → Enclosed (F ⊗ E) (scaled_down n f.lo // k) (scaled_up n f.hi // k)
scaled_encloses n k f pos e g = enclosed_wider (enclosed_product g e) (scaled_below n f.lo k pos) (scaled_above n f.hi k pos)

-- The product has at least m units, and e is for its two roundings.
pub scaled_near : {k : ℕ} (n : ℕ) (f : Bounds) (m e : ℕ) → m * 2 ^ 30 ≤ n * f.lo → 2000000000000 + k ≤ m * e → Gap k f.lo f.hi
    → Gap (k + e) (scaled_down n f.lo) (scaled_up n f.hi)
scaled_near n f m e some few h = scaled_gap n n f.lo f.hi m e some few (gap_times n h)

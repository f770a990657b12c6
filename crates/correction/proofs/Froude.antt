-- 1/Fn: bounds on the formula, and how near its two ends are. Assumes nothing.
use mathlib.Core.Path.{◌≡◌}
use Prim.Native.Nat.{ℕ, ◌+◌, ◌*◌, ◌^◌, ◌≤◌, ◌<◌}
use native.Mathlib.Nat.{mul-le-mul, mul-le-mul_right, le_of_mul-le-mul_right, mul-pos, suc-pred-eq_of_pos, le_trans, lt_of_not-le}
use native.Mathlib.Decide.{dec_le}
use native.Mathlib.Omega.{arith}
use lib.Dec.{lit<, lit≤}
use Rattle.formula.specs.Formula.{Frac, ◌//◌, ◌≼◌, ◌·◌, Side, below, above, other, lies, at_most, at_least, LiesPower, Formula, lit, ◌⊗◌, ◌⊘◌, ◌↑◌, smaller, bounds}
use Rattle.formula.specs.Formula.{by_lit, by_product, by_quotient, by_power, smaller_first, smaller_second, smaller_both}
use Rattle.formula.specs.Words.{whole}
use Rattle.formula.proofs.Fractions.{◌≈◌, lies_refl, lies-≈, lies_trans, lies-·}
use Rattle.formula.proofs.Powers.{power_half}
use Rattle.exact.specs.Ship.{Hull}
use Rattle.exact.specs.Index.{Fn}
use Rattle.number.specs.Division.{Floor, Ceil}
use Rattle.number.proofs.Divisions.{floor_is, ceil_is}
use Rattle.number.proofs.Gaps.{Gap, gap_product, gap_more, gap_at_least, gap_at_most}
use Rattle.power.specs.declared.Bounds.{Bounds}
use Rattle.power.specs.Numbers.{unit}
use Rattle.power.specs.Power.{BoundsPower, Power}
use Rattle.power.proofs.Laws.{in_words, capped, power_law}
use Rattle.ship.specs.Accepted.{Shaped}
use Rattle.correction.specs.Correction.{Fast, WithinLimits, limited, inverse_froude_down, inverse_froude_up, sixth_root, inverse_froude, Spread}
use Rattle.correction.proofs.Exponents.{power_third, power_gap}

-- ── Fn without its limit ────────────────────────────────────────────────────────────────────

-- The root of 9.81 times the cube root of the volume: q times the sixth root, where the square of q is on that side of 9.81.
regroup : (s : Side) (q w : Frac) → lies s (q · w · (q · w)) (q · q · (w · w))
regroup s q w =
    let same : q · w · (q · w) ≈ q · q · (w · w) = omega arith in
    lies-≈ s same

wave : {s : Side} {x w : Frac} (q : Frac) → lies s (q · q) (981 // 100) → LiesPower s w x (1 // 6) → bounds s ((lit (981 // 100) ⊗ lit x ↑ (1 // 3)) ↑ (1 // 2)) (q · w)
wave {s} q h p =
    by_power
    (by_product (by_lit (lies_refl s _)) (by_power (by_lit (lies_refl s _)) (power_third p)) (lies_refl s _))
    (power_half (lies_trans (regroup s q _) (lies-· h (lies_refl s _))))

abbrev unlimited : Formula → ℕ → Formula
unlimited e volume = (lit (5144 // 10000) ⊗ e) ⊘ (lit (981 // 100) ⊗ whole volume ↑ (1 // 3)) ↑ (1 // 2)

quotient : {s : Side} {e : Formula} {t u : Frac} (volume : ℕ) (q : Frac) (w : ℕ) → 0 < q.num → 0 < w → lies (other s) (q · q) (981 // 100) → BoundsPower (other s) w unit volume 1 1 6
    → bounds s e u → lies s (t · (q · w // unit)) (5144 // 10000 · u) → bounds s (unlimited e volume) t
quotient {s} volume q w qpos wpos root p b h = by_quotient (by_product (by_lit (lies_refl s _)) b (lies_refl s _)) (wave q root (in_words w unit volume 1 1 6 p)) (mul-pos qpos wpos) h

-- ── Fn ──────────────────────────────────────────────────────────────────────────────────────

-- Where 1/Fn is limited to 5/3 the rule's own limit bounds Fn, and else the quotient; from below both do.
module _ {e : Formula} (h : Hull) where
  fn_below : (r w v : ℕ) → 0 < w → limited r < 36 * 2 ^ 26 → Ceil (w * (225899 * 750) * 1250 ^ 2) (v * (72124 * 643)) r → BoundsPower above w unit h.volume 1 1 6 → bounds below e (v // 1000000)
      → bounds below (Fn e h) ((15 * 2 ^ 26) // limited r)
  unfolding Fn
  fn_below r w v wpos less f p b =
      let pos : 0 < limited r = omega arith in
      let from : 25 * 2 ^ 26 ≤ limited r = omega arith in
      let x : w * (225899 * 750) * 1250 ^ 2 ≤ limited r * (v * (72124 * 643)) = le_trans f.at_least (mul-le-mul_right (v * (72124 * 643)) (omega arith)) in
      let c : 981 // 100 ≼ 225899 // 72124 · 225899 // 72124 = omega arith in
      let g : (15 * 2 ^ 26) // limited r · (225899 // 72124 · w // unit) ≼ 5144 // 10000 · v // 1000000 = record { cross = rw (suc-pred-eq_of_pos pos) (omega arith) } in
      let d : (15 * 2 ^ 26) // limited r ≼ 6 // 10 = record { cross = rw (suc-pred-eq_of_pos pos) (omega arith) } in
      smaller_both (quotient h.volume (225899 // 72124) w (lit< tt) wpos (at_least c) p b (at_most g)) (by_lit (at_most d))

  fn_above : (q w v : ℕ) → 0 < w → Floor (w * (78888 * 750) * 1250 ^ 2) (v * (25187 * 643)) q → BoundsPower below w unit h.volume 1 1 6 → bounds above e (v // 1000000)
      → bounds above (Fn e h) ((15 * 2 ^ 26) // limited q)
  unfolding Fn
  fn_above q w v wpos f p b = elim (dec_le q (25 * 2 ^ 26)) [ yes l ↦ at_limit (omega arith) | no l ↦ smaller_first (under (omega arith) (omega (arith, lt_of_not-le l))) ]
    where
      at_limit : limited q ≡ 25 * 2 ^ 26 → bounds above (smaller (unlimited e h.volume) (lit (6 // 10))) ((15 * 2 ^ 26) // limited q)
      at_limit z =
          let c : 6 // 10 ≼ (15 * 2 ^ 26) // (25 * 2 ^ 26) = omega arith in
          rw z (smaller_second (by_lit (at_least c)))

      under : 0 < limited q → limited q ≤ q → bounds above (unlimited e h.volume) ((15 * 2 ^ 26) // limited q)
      under pos le =
          let x : limited q * (v * (25187 * 643)) ≤ w * (78888 * 750) * 1250 ^ 2 = le_trans (mul-le-mul_right (v * (25187 * 643)) le) f.at_most in
          let c : 78888 // 25187 · 78888 // 25187 ≼ 981 // 100 = omega arith in
          let g : 5144 // 10000 · v // 1000000 ≼ (15 * 2 ^ 26) // limited q · (78888 // 25187 · w // unit) = record { cross = rw (suc-pred-eq_of_pos pos) (omega arith) } in
          quotient h.volume (78888 // 25187) w (lit< tt) wpos (at_most c) p b (at_least g)

-- ── 1/Fn of a ship ──────────────────────────────────────────────────────────────────────────

in_order : {x x' d d' q r : ℕ} → 0 < d → 0 < d' → x * d' ≤ x' * d → Floor x d q → Ceil x' d' r → q ≤ r
in_order {d = d} {d'} pos pos' h f c =
    le_of_mul-le-mul_right {k = d * d'} (omega (arith, mul-le-mul_right d' f.at_most, mul-le-mul_right d c.at_least)) (mul-pos pos pos')

module _ {h : Hull} (shaped : Shaped h) where
  pub root_law : Power h.volume 1 1 6 (sixth_root h)
  root_law =
      let w = shaped.volume in
      power_law (record { some = lit≤ tt; from_one = omega (arith, w.least); moderate = omega (arith, w.most); small = omega (arith, w.most); part = lit< tt; fine = lit< tt })

  -- The sixth root of at most a million is at most 10.
  pub root_high : (sixth_root h).hi ≤ 11 * 2 ^ 30
  root_high =
      let top = capped _ unit h.volume 1 1 6 1000000 1 10 1 (lit< tt) (lit< tt) (lit< tt) (lit< tt) (lit< tt) (omega (arith, shaped.volume.most)) (lit≤ tt) root_law.encloses_below in
      omega (arith, root_law.near)

  module _ {v : Bounds} (fast : Fast v) where
    low_some : 0 < v.lo * (72124 * 643)
    low_some = omega (arith, fast.low)

    high_some : 0 < v.hi * (25187 * 643)
    high_some = omega (arith, fast.low, fast.order)

    down : Floor ((sixth_root h).lo * (78888 * 750) * 1250 ^ 2) (v.hi * (25187 * 643)) (inverse_froude_down (sixth_root h).lo v.hi)
    unfolding inverse_froude_down
    down = floor_is _ _ high_some

    up : Ceil ((sixth_root h).hi * (225899 * 750) * 1250 ^ 2) (v.lo * (72124 * 643)) (inverse_froude_up (sixth_root h).hi v.lo)
    unfolding inverse_froude_up
    up = ceil_is _ _ low_some

    pub froude_above : {e : Formula} → bounds above e (v.hi // 1000000) → bounds above (Fn e h) ((15 * 2 ^ 26) // (inverse_froude v h).lo)
    unfolding inverse_froude
    froude_above = fn_above h _ _ v.hi (omega (arith, root_law.low)) down root_law.encloses_below

    pub froude_below : {e : Formula} → (inverse_froude v h).hi < 36 * 2 ^ 26 → bounds below e (v.lo // 1000000) → bounds below (Fn e h) ((15 * 2 ^ 26) // (inverse_froude v h).hi)
    unfolding inverse_froude
    froude_below less = fn_below h _ _ v.lo (omega (arith, root_law.low, root_law.order)) less up root_law.encloses_above

    pub froude_limits : WithinLimits (inverse_froude v h)
    unfolding inverse_froude
    froude_limits =
        let o = in_order high_some low_some (omega (arith, mul-le-mul root_law.order fast.order)) down up in
        record { low = omega arith; order = omega arith; high = omega arith }

    pub froude_spread : Spread (15 * 2 ^ 26) (inverse_froude v h).lo (inverse_froude v h).hi
    froude_spread =
        let f = froude_limits in
        record {
          some = lit≤ tt;
          from_one = omega (arith, f.low);
          moderate = omega (arith, f.order, f.high);
          small = omega (arith, f.order, f.high);
          order = f.order;
          near = omega (arith, f.low, f.high);
        }

    -- The root of the volume, the two ends of the root of 9.81, the speed, and the two roundings.
    pub froude_near : (k : ℕ) → k ≤ 900000 → Gap (10 * k) v.lo v.hi → Gap (10 * (k + 1000)) (inverse_froude v h).lo (inverse_froude v h).hi
    unfolding inverse_froude
    froude_near k small near =
        gap_more (omega arith) (gap_at_most (36 * 2 ^ 26) (gap_at_least (25 * 2 ^ 26) 1200 low_some high_some (apart (sixth_root h) (power_gap root_law)) down up (omega arith)))
      where
        apart : (w : Bounds) → Gap 7451 w.lo w.hi
            → Gap (7629 + 10 * k) (w.lo * (78888 * 750) * 1250 ^ 2 * (v.lo * (72124 * 643))) (w.hi * (225899 * 750) * 1250 ^ 2 * (v.hi * (25187 * 643)))
        apart w root =
            let first : Gap (7451 + 10 * k + 1) (w.lo * v.lo) (w.hi * v.hi) = gap_product 1 (omega arith) root near in
            let second : Gap 176 (78888 * 72124) (225899 * 25187) = record { gap = lit≤ tt } in
            let all : Gap (176 + (7451 + 10 * k + 1) + 1) (78888 * 72124 * (w.lo * v.lo)) (225899 * 25187 * (w.hi * v.hi)) = gap_product 1 (omega arith) second first in
            record { gap = omega (arith, all.gap) }

-- Method 4: V_avg, the margin, MCR_avg, and the speed from these parts. Assumes nothing.
use mathlib.Core.Path.{◌≡◌, refl}
use mathlib.Core.Bool.{Bool, true, false}
use mathlib.Core.Logic.{◌⊎◌, inl, inr, ⊎_elim}
use Prim.Native.Nat.{ℕ, ◌+◌, ◌-◌, ◌*◌, ◌/◌, ◌^◌, ◌≤◌, ◌<◌}
use native.Mathlib.Nat.{le_trans, mul-pos, one-le-pow, mul-le-mul, mul-le-mul_left, suc-pred-eq_of_pos}
use native.Mathlib.Omega.{arith}
use lib.Dec.{leb, lit<, lit≤}
use borrow.Author.Tests.{leb-true, leb-false}
use Rattle.formula.specs.Formula.{Frac, ◌//◌, ◌≼◌, ◌⊹◌, ◌·◌, ◌↥◌, Side, below, above, other, lies, at_most, at_least, Formula, lit, ◌⊗◌}
use Rattle.formula.specs.Formula.{bounds, by_lit, by_difference, by_product, larger_first, larger_second, larger_both, by_power, Enclosed}
use Rattle.exact.specs.Ship.{Deadweight, Kind, statistical}
use Rattle.formula.specs.Words.{percent, if}
use Rattle.exact.specs.Index.{row, sized, V_avg, MCR_avg, less_margin, V_ref}
use Rattle.formula.proofs.Wholes.{mul_pow}
use Rattle.formula.proofs.Fractions.{◌≈◌, lies_refl, lies-≈}
use Rattle.formula.proofs.Powers.{power_cubed}
use Rattle.number.specs.Ratio.{Moderate}
use Rattle.power.specs.declared.Bounds.{Bounds}
use Rattle.power.specs.Numbers.{unit}
use Rattle.power.specs.Power.{BoundsPower, Raisable, power_of, Power}
use Rattle.power.proofs.Laws.{in_words, power_law}
use Rattle.ship.specs.Accepted.{Within}
use Rattle.propeller.specs.declared.Split.{Split}
use Rattle.propeller.specs.Propeller.{pair, Parted, Speed}
use Rattle.statistical.specs.Curves.{average_of, less_margin_of, statistical_of}
use Rattle.propeller.proofs.Products.{Product, product_is}
use Rattle.statistical.proofs.Rows.{row_fits, two_cuts, sized_within}
use Rattle.propeller.proofs.Sides.{at, Upto, some_at, power_at, farther, shape, Cubes, cubes, capped_root}
use Rattle.statistical.proofs.Reach.{spread, apart, slowest, fastest}

-- ── V_avg ───────────────────────────────────────────────────────────────────────────────────

pub size_raisable : (most p q : ℕ) (kind : Kind) (dwt : Deadweight) → 100 ≤ most → Within 100 600000 dwt.tonnes → p < q → q < 2 ^ 24 → Raisable (sized most kind dwt) 1 p q
size_raisable most p q kind dwt h w less fine =
    let z = sized_within most kind dwt h w in
    record { some = lit≤ tt; from_one = omega (arith, z.least); moderate = omega (arith, z.most); small = omega (arith, z.most); part = less; fine = fine }

pub record Averaged (kind : Kind) (dwt : Deadweight) (v : Bounds) : Type 0 where
  pub holds : (s : Side) → BoundsPower s (at s v) ((row kind).A * 100000) (sized 80000 kind dwt) 1 (row kind).C 100000
  pub near : v.hi * 2 ^ 27 ≤ (v.lo + 2) * (2 ^ 27 + 1)
  pub low : 1060000000 ≤ v.lo
  pub order : v.lo ≤ v.hi
  pub high : v.hi ≤ 2 ^ 37

module _ (kind : Kind) (dwt : Deadweight) (w : Within 100 600000 dwt.tonnes) where
  pub average_raisable : Raisable (sized 80000 kind dwt) 1 (row kind).C 100000
  average_raisable = size_raisable 80000 (row kind).C 100000 kind dwt (lit≤ tt) w (omega (arith, (row_fits kind).1.c_high)) (lit< tt)

  law : Power (sized 80000 kind dwt) 1 (row kind).C 100000 (power_of (sized 80000 kind dwt) 1 (row kind).C 100000)
  law = power_law average_raisable

  below_most : (power_of (sized 80000 kind dwt) 1 (row kind).C 100000).lo ≤ unit * (row_fits kind).0.m
  below_most =
      let z = sized_within 80000 kind dwt (lit≤ tt) w in
      let fit = (row_fits kind).1 in
      capped_root _ (sized 80000 kind dwt) (row kind).C 100000 (row_fits kind).0.j (row_fits kind).0.m 600000 (omega (arith, z.least)) z.most (lit< tt)
      fit.j_low fit.c_root fit.top law.encloses_below

  -- A x^C in 10^-5 of a unit.
  pub low_fits : (row kind).A * (power_of (sized 80000 kind dwt) 1 (row kind).C 100000).lo ≤ unit * 901000
  low_fits = omega (arith, mul-le-mul_left (row kind).A below_most, (row_fits kind).1.fast)

  pub high_fits : (row kind).A * (power_of (sized 80000 kind dwt) 1 (row kind).C 100000).hi ≤ unit * 901001
  high_fits = omega (arith, low_fits, mul-le-mul_left (row kind).A law.near)

  pub averaged : Averaged kind dwt (average_of kind dwt)
  unfolding average_of
  averaged = go (power_of (sized 80000 kind dwt) 1 (row kind).C 100000) law high_fits
    where
      go : (x : Bounds) → Power (sized 80000 kind dwt) 1 (row kind).C 100000 x → (row kind).A * x.hi ≤ unit * 901001
          → Averaged kind dwt (pair ((row kind).A * 3125 * x.lo / 33554432) ((row kind).A * 3125 * x.hi / 33554432 + 1))
      go x p top =
          let t = (row kind).A * 3125 in
          let n = mul-le-mul_left t p.near in
          let o = mul-le-mul_left t p.order in
          let l = mul-le-mul (row_fits kind).1.a_low p.low in
          let pos : 0 < (row kind).A * 100000 = omega (arith, (row_fits kind).1.a_low) in
          record {
            holds = λ s. farther s (at s x) unit _ _ _ _ _ _ pos (lit< tt) (elim s as (λ s. Upto s (at s (pair ((row kind).A * 3125 * x.lo / 33554432) ((row kind).A * 3125 * x.hi / 33554432 + 1)) * unit) (at s x * ((row kind).A * 100000))) [ below ↦ omega arith | above ↦ omega arith ]) (power_at p s);
            near = omega arith;
            low = omega arith;
            order = omega arith;
            high = omega (arith, top);
          }

  pub average_bounds : {v : Bounds} → Averaged kind dwt v → (s : Side) → bounds s (V_avg kind dwt) (at s v // 1000000000)
  unfolding V_avg
  average_bounds {v} a s =
      by_product (by_lit (lies_refl s _)) (by_power (by_lit (lies_refl s _)) (in_words (at s v) ((row kind).A * 100000) _ _ _ _ (a.holds s))) (lies-≈ s (same (at s v)))
    where
      same : (v : ℕ) → v // 1000000000 ≈ (row kind).A // 10000 · v // ((row kind).A * 100000)
      same v =
          let pos : 0 < (row kind).A * 100000 = omega (arith, (row_fits kind).1.a_low) in
          record { cross = rw (suc-pred-eq_of_pos pos) (omega arith) }

-- ── The margin ──────────────────────────────────────────────────────────────────────────────

-- r is the larger of 0.95 v and v less one knot, rounded down.
pub record Kept (v r : ℕ) : Type 0 where
  pub below : (100 * r ≤ 95 * v) ⊎ (r + 1000000000 ≤ v)
  pub first : 95 * v ≤ 100 * (r + 1)
  pub second : v ≤ r + 1 + 1000000000
  pub less : r ≤ v

pub kept : (v : ℕ) → Kept v (less_margin_of v)
unfolding less_margin_of
kept v = go (leb v 20000000000) refl
  where
    go : (b : Bool) → leb v 20000000000 ≡ b → Kept v (if b (v * 95 / 100) (v - 1000000000))
    go true e =
        let h : v ≤ 20000000000 = leb-true _ _ e in
        record { below = inl (omega arith); first = omega arith; second = omega arith; less = omega arith }
    go false e =
        let h : 20000000000 < v = leb-false _ _ e in
        record { below = inr (omega arith); first = omega arith; second = omega arith; less = omega arith }

-- Of a V that lies between v and v'.
pub margin_bounds : {e : Formula} {v v' r r' : ℕ} → bounds below e (v // 1000000000) → bounds above e (v' // 1000000000) → Kept v r → Kept v' r'
    → Enclosed (less_margin e) (r // 1000000000) ((r' + 1) // 1000000000)
unfolding less_margin
margin_bounds {e} {v} {v'} {r} {r'} lo hi p p' =
    let f : 95 // 100 · v' // 1000000000 ≼ (r' + 1) // 1000000000 = omega (arith, p'.first) in
    let g : v' // 1000000000 ≼ (r' + 1) // 1000000000 ⊹ 1 // 1 = omega (arith, p'.second) in
    record {
      low =
          ⊎_elim
          (λ h. larger_first (by_product (by_lit (lies_refl below _)) lo (at_most (omega arith))))
          (λ h. larger_second (by_difference lo (by_lit (lies_refl above _)) (at_most (omega arith))))
          p.below;
      high = larger_both (by_product (by_lit (lies_refl above _)) hi (at_least f)) (by_difference hi (by_lit (lies_refl below _)) (at_least g));
    }

-- ── MCR_avg ─────────────────────────────────────────────────────────────────────────────────

-- 75 % of MCR_avg from a bound on E^(F/3).
abbrev pub mcr_at : (D w : ℕ) → Frac
mcr_at D w = 75 // 100 · (D // 10000 · (w // unit) ↥ 3)

pub mcr_bounds : (kind : Kind) (dwt : Deadweight) (s : Side) (w : ℕ) → BoundsPower s w unit (sized 95000 kind dwt) 1 (row kind).F 300000
    → bounds s (percent 75 ⊗ MCR_avg kind dwt) (mcr_at (row kind).D w)
unfolding MCR_avg
mcr_bounds kind dwt s w h =
    by_product (by_lit (lies_refl s _))
    (by_product (by_lit (lies_refl s _)) (by_power (by_lit (lies_refl s _)) (power_cubed (row kind).F {q = 100000} (lit< tt) (in_words w unit _ _ _ _ h))) (lies_refl s _))
    (lies_refl s _)

-- ── The formula's root ──────────────────────────────────────────────────────────────────────

-- The product's cubes are the formula's: q is t 1000 / b.
root_side : (s : Side) (t w b D P : ℕ) → 0 < b → Cubes s t w b (P * 400) (3 * D) → lies s (((t * 1000) // b) ↥ 3 · mcr_at D w) (P // 100)
root_side below t w b D P pos h =
    let g : (t * 1000) ^ 3 * w ^ 3 * (3 * D) ≤ b ^ 3 * (2 ^ 30) ^ 3 * (P * 400) = rw (mul_pow (t * 1000) w 3, mul_pow b (2 ^ 30) 3) at h in
    let c : ((t * 1000) // b) ↥ 3 · mcr_at D w ≼ P // 100 = record { cross = rw (suc-pred-eq_of_pos pos) (omega arith) } in
    at_most c
root_side above t w b D P pos h =
    let g : b ^ 3 * (2 ^ 30) ^ 3 * (P * 400) ≤ (t * 1000) ^ 3 * w ^ 3 * (3 * D) = rw (mul_pow (t * 1000) w 3, mul_pow b (2 ^ 30) 3) at h in
    let c : P // 100 ≼ ((t * 1000) // b) ↥ 3 · mcr_at D w = record { cross = rw (suc-pred-eq_of_pos pos) (omega arith) } in
    at_least c

out : (t b : ℕ) → 0 < b → t // 1000000 ≈ b // 1000000000 · (t * 1000) // b
out t b pos = record { cross = rw (suc-pred-eq_of_pos pos) (omega arith) }

-- ── The parts ───────────────────────────────────────────────────────────────────────────────

abbrev based : Bounds → Bounds → Split
based v over = record { base = pair (less_margin_of v.lo) (less_margin_of v.hi + 1); over = over }

-- The two ends of the speed less its margin, over a power.
split_parted : {kind : Kind} {dwt : Deadweight} {v o : Bounds} {e f q : ℕ} → Averaged kind dwt v → Power e 1 f q o → Parted (based v o)
split_parted {v = v} a o =
    let p = kept v.lo in
    let p' = kept v.hi in
    let order : less_margin_of v.lo ≤ less_margin_of v.hi + 1 = ⊎_elim (λ h. omega (arith, a.order, p'.first)) (λ h. omega (arith, a.order, p'.second)) p.below in
    let near : (less_margin_of v.hi + 1) * 100000000 ≤ less_margin_of v.lo * 100000003 =
    ⊎_elim (λ h. omega (arith, a.near, a.low, p.first)) (λ h. omega (arith, a.near, a.low, p.first, p.second)) p'.below in
    omega (arith, a.low, a.high, p.first, p'.less, o)

module _ (kind : Kind) (dwt : Deadweight) (P : ℕ) (w : Within 100 600000 dwt.tonnes) (strong : Within 7500 36000000 P) where
  pub over_raisable : Raisable (sized 95000 kind dwt) 1 (row kind).F 300000
  over_raisable = size_raisable 95000 (row kind).F 300000 kind dwt (lit≤ tt) w (omega (arith, (row_fits kind).1.f_high)) (lit< tt)

  over : Power (sized 95000 kind dwt) 1 (row kind).F 300000 (power_of (sized 95000 kind dwt) 1 (row kind).F 300000)
  over = power_law over_raisable

  pub statistical_parted : Parted (based (average_of kind dwt) (power_of (sized 95000 kind dwt) 1 (row kind).F 300000))
  statistical_parted = split_parted (averaged kind dwt w) over

  pub statistical_moderate : Moderate (P * 400) (3 * (row kind).D)
  statistical_moderate = omega (arith, (row_fits kind).1.d_low, (row_fits kind).1.d_high, strong)

  module _ (v o r : Bounds) (a : Averaged kind dwt v) (law : Power (sized 95000 kind dwt) 1 (row kind).F 300000 o) (x : Product (based v o) (P * 400) (3 * (row kind).D) r) where
    margin_side : (s : Side) → bounds s (less_margin (V_avg kind dwt)) (at s (based v o).base // 1000000000)
    margin_side s =
        let m = margin_bounds (average_bounds kind dwt w a below) (average_bounds kind dwt w a above) (kept v.lo) (kept v.hi) in
        elim s as (λ s. bounds s (less_margin (V_avg kind dwt)) (at s (based v o).base // 1000000000)) [ below ↦ m.low | above ↦ m.high ]

    base_some : (s : Side) → 0 < at s (based v o).base
    base_some below = omega (arith, (split_parted a law).low)
    base_some above = omega arith

    over_some : (s : Side) → 0 < at s o
    over_some = some_at (omega (arith, law.low)) law.order

    speed_side : (s : Side) → bounds s (V_ref statistical kind dwt (lit (P // 100))) (at s r // 1000000)
    unfolding V_ref
    speed_side s =
        shape ((at s r * 1000) // at s (based v o).base) (margin_side s) (mcr_bounds kind dwt (other s) (at (other s) o) (power_at law (other s)))
        (mul-pos (lit< tt) (mul-pos (row_fits kind).1.d_low (one-le-pow 3 (at (other s) o) (over_some (other s)))))
        (root_side s (at s r) (at (other s) o) (at s (based v o).base) (row kind).D P (base_some s) (cubes x s))
        (lies-≈ s (out (at s r) (at s (based v o).base) (base_some s)))

    statistical_is : Speed (V_ref statistical kind dwt (lit (P // 100))) r
    statistical_is =
        let fit = (row_fits kind).1 in
        let cuts = two_cuts kind dwt w in
        let size : 100 ≤ sized 95000 kind dwt = (sized_within 95000 kind dwt (lit≤ tt) w).least in
        let k : 0 < (row kind).A * 100000 = omega (arith, fit.a_low) in
        let n = (row_fits kind).0 in
        let wide : o.lo * ((row kind).A * 100000) ≤ unit * v.hi * n.c =
        spread o.lo unit (sized 95000 kind dwt) (row kind).F v.hi ((row kind).A * 100000) (sized 80000 kind dwt) (row kind).C 100000 600000 n.a n.b n.c (lit< tt) k (lit< tt)
        (le_trans (lit≤ tt) size) fit.b_some cuts.most cuts.near fit.cut fit.spread fit.grown (power_at law below) (a.holds above) in
        let far : v.lo * unit * 3 ≤ (row kind).A * 100000 * o.hi * 2 =
        apart o.hi unit (sized 95000 kind dwt) (row kind).F v.lo ((row kind).A * 100000) (sized 80000 kind dwt) (row kind).C 100000 30000 (lit< tt) k (lit< tt)
        size cuts.order fit.apart refl (power_at law above) (a.holds below) in
        let slow : 1910000 ≤ r.hi =
        slowest r.hi o.lo (row kind).A (row kind).D unit v.hi (less_margin_of v.hi + 1) P n.c (over_some below) fit.d_low fit.c_some strong.least
        wide (kept v.hi).first fit.strong x.above in
        let fast : r.lo ≤ 220000000 =
        fastest r.lo o.hi (row kind).A (row kind).D unit v.lo (less_margin_of v.lo) P (over_some above) fit.d_low strong.most far (kept v.lo).less fit.weak x.below in
        let near = x.near in
        record { encloses = record { low = speed_side below; high = speed_side above }; near = near; slow = omega arith; fast = omega arith }

  pub statistical_speed : Speed (V_ref statistical kind dwt (lit (P // 100))) (statistical_of kind dwt P)
  unfolding statistical_of
  statistical_speed = statistical_is (average_of kind dwt) _ _ (averaged kind dwt w) over (product_is statistical_parted statistical_moderate)

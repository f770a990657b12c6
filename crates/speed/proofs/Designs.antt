-- Method 3: the cube root of k, and the trial's deadweight over Capacity to the power 2/9. Assumes nothing.
use mathlib.Core.Path.{◌≡◌, refl}
use mathlib.Core.Bool.{Bool, true, false}
use Prim.Native.Nat.{ℕ, ◌/◌, ◌+◌, ◌*◌, ◌^◌, ◌≤◌, ◌<◌}
use native.Mathlib.Nat.{le_trans, le_refl, mul-pos, mul-le-mul, mul-le-mul_left, mul-le-mul_right, le_of_mul-le-mul_right, suc-pred-eq_of_pos}
use native.Mathlib.Omega.{arith}
use lib.Dec.{leb, lit<, lit≤}
use borrow.Author.Tests.{leb-true, leb-false}
use Rattle.formula.specs.Formula.{◌//◌, ◌·◌, Side, below, above, other, Formula, lit, ◌⊗◌, ◌⊘◌, ◌↑◌, bounds, by_lit, by_product, by_quotient, by_power}
use Rattle.exact.specs.Ship.{Deadweight, Kind, bulk, gas, tanker, container, refrigerated, combination, vehicle, general, design_trial}
use Rattle.formula.specs.Words.{whole, percent, if}
use Rattle.exact.specs.Index.{Capacity, V_ref}
use Rattle.exact.specs.Index as rules
use Rattle.formula.proofs.Fractions.{◌≈◌, lies_refl, lies-≈}
use Rattle.number.specs.Division.{ceil_of, Floor, Ceil}
use Rattle.number.proofs.Divisions.{floor_is, ceil_is, floor_greatest, ceil_least}
use Rattle.number.proofs.Gaps.{Gap, gap_product, gap_times, gap_cut}
use Rattle.power.specs.declared.Bounds.{Bounds}
use Rattle.power.specs.Numbers.{unit}
use Rattle.power.specs.Power.{BoundsPower, Raisable, power_of, Power}
use Rattle.power.proofs.Laws.{in_words, capped, power_law}
use Rattle.ship.specs.Accepted.{Within, Near, ByDesignDraught}
use Rattle.exact.proofs.Rules.{Capacity_between}
use Rattle.propeller.specs.declared.Split.{Split}
use Rattle.propeller.specs.Propeller.{pair, Parted, Speed}
use Rattle.speed.specs.Speeds.{times_of, Factor, Fives, k_root_of, up_of, down_of, parts_of, design_of}
use Rattle.propeller.proofs.Products.{product_is}
use Rattle.propeller.proofs.Sides.{at, Upto, some_at, power_at, inverse_at, farther}
use Rattle.speed.proofs.Trials.{measured, trial_moderate}

-- ── The cube root of k ──────────────────────────────────────────────────────────────────────

pub record KRoot (n : ℕ) (g : Bounds) : Type 0 where
  pub holds : (s : Side) → BoundsPower s (at s g) 1000000000 n 100 1 3
  pub size : Factor g

module _ (n : ℕ) (w : Within 90 100 n) where
  pub k_raisable : Raisable 100 n 1 3
  k_raisable = record { some = omega (arith, w.least); from_one = w.most; moderate = omega (arith, w.least); small = lit< tt; part = lit< tt; fine = lit< tt }

  some : 0 < n
  some = omega (arith, w.least)

  law : Power 100 n 1 3 (power_of 100 n 1 3)
  law = power_law k_raisable

  root_some : (s : Side) → 0 < at s (power_of 100 n 1 3)
  root_some = some_at (omega (arith, law.low)) law.order

  pub k_root : KRoot n (k_root_of n)
  unfolding k_root_of
  k_root = go (power_of 100 n 1 3) law (floor_is _ _ (root_some above)) (ceil_is _ _ (root_some below))
    where
      -- x over w' rounded down and x over w rounded up.
      quotients : (x w w' lo hi : ℕ) → 0 < w → w' * 2 ^ 27 ≤ w * (2 ^ 27 + 1) → x < (lo + 1) * w' → hi * w < x + w → hi * 2 ^ 27 ≤ (lo + 2) * (2 ^ 27 + 1)
      quotients x w w' lo hi pos over f g = le_of_mul-le-mul_right {k = w} (omega (arith, mul-le-mul_left (lo + 1) over)) pos

      go : (y : Bounds) → Power 100 n 1 3 y → {lo hi : ℕ} → Floor 1073741824000000000 y.hi lo → Ceil 1073741824000000000 y.lo hi → KRoot n (pair lo hi)
      go y p {lo} {hi} f c =
          let pos : 0 < y.lo = omega (arith, p.low) in
          let small : y.lo * 24 ≤ 25 * unit =
          capped y.lo unit 100 n 1 3 10 9 25 24 (lit< tt) some (lit< tt) (lit< tt) (lit< tt) (omega (arith, w.least)) (lit≤ tt) p.encloses_below in
          record {
            holds =
                λ s. farther s unit _ _ 1000000000 n 100 1 3 (lit< tt) (some_at pos p.order (other s)) (elim s as (λ s. Upto s (at s (pair lo hi) * at (other s) y) 1073741824000000000) [ below ↦ f.at_most | above ↦ c.at_least ])
                (inverse_at (lit< tt) some (lit< tt) p s);
            size =
                record {
                  near = quotients 1073741824000000000 y.lo y.hi lo hi pos p.near f.next_above c.previous_below;
                  low = floor_greatest f 950000000 (omega (arith, p.near, small));
                  order = le_of_mul-le-mul_right {k = y.lo} (omega (arith, f.at_most, c.at_least, mul-le-mul_left lo p.order)) pos;
                  high = ceil_least c 1000000000 (omega (arith, p.low));
                };
          }

either : (b : Bool) {m n : ℕ} → Within 90 100 m → Within 90 100 n → Within 90 100 (if b m n)
either true h k = h
either false h k = k

-- k is one of four numbers.
pub k_within : (kind : Kind) (dwt : Deadweight) → ByDesignDraught kind → Within 90 100 (rules.k kind dwt)
unfolding rules.k
k_within bulk dwt d = either (leb dwt.tonnes 200000) (omega arith) (omega arith)
k_within tanker dwt d = either (leb dwt.tonnes 100000) (omega arith) (omega arith)
k_within container dwt d = either (leb dwt.tonnes 120000) (omega arith) (omega arith)
k_within gas dwt d = absurd d
k_within refrigerated dwt d = absurd d
k_within combination dwt d = absurd d
k_within vehicle dwt d = absurd d
k_within general dwt d = absurd d

-- ── The trial's deadweight over Capacity ────────────────────────────────────────────────────

pub fives_raisable : {a b : ℕ} → Fives a b → b ≤ a → Raisable a b 2 9
fives_raisable f h = record { some = f.b_low; from_one = h; moderate = omega (arith, f.near.first); small = f.a_high; part = lit< tt; fine = lit< tt }

pub turned : {a b : ℕ} → Fives a b → Fives b a
turned f = omega (arith, f)

-- The power 2/9 of at most 5 is at most 23/16.
module _ {a b : ℕ} {x : Bounds} (f : Fives a b) (w : Power a b 2 9 x) where
  pub power_most : x.lo ≤ 23 * 2 ^ 26
  power_most = omega (arith, capped x.lo unit a b 2 9 5 1 23 16 (lit< tt) f.b_low (lit< tt) (lit< tt) (lit< tt) (omega (arith, f.near.first)) (lit≤ tt) w.encloses_below)

  pub power_most' : x.hi ≤ 23 * 2 ^ 26 + 12
  power_most' = omega (arith, power_most, w.near)

pub up_fits : {g : Bounds} {a b : ℕ} → Factor g → Fives a b → b ≤ a → (g.lo * (power_of a b 2 9).lo ≤ 2 ^ 61) × (g.hi * (power_of a b 2 9).hi ≤ 2 ^ 61)
up_fits c f h =
    let p = power_law (fives_raisable f h) in
    (le_trans (mul-le-mul (le_trans c.order c.high) (power_most f p)) (lit≤ tt), le_trans (mul-le-mul c.high (power_most' f p)) (lit≤ tt))

-- v f / 100 rounded down and up, where f' is at most 2.5 hundred-millionths above f.
pub record Based (p : Bounds) : Type 0 where
  pub low : 1000000000 ≤ p.lo
  pub order : p.lo ≤ p.hi
  pub high : p.hi ≤ 2 ^ 38
  pub near : p.hi * 100000000 ≤ p.lo * 100000003
  pub fast : 4750000000 ≤ p.hi
  pub slow : p.lo ≤ 86250000000

pub record Close (f : Bounds) : Type 0 where
  pub low : 950000000 ≤ f.lo
  pub order : f.lo ≤ f.hi
  pub high : f.lo ≤ 1437500000
  pub high' : f.hi ≤ 1437500100
  pub near : Gap 25000 f.lo f.hi

hundredths : {x x' : ℕ} {p : Bounds} → 475000000000 ≤ x → x ≤ x' → x ≤ 8625000000000 → x' ≤ 8625000600000 → Gap 25000 x x' → Floor x 100 p.lo → Ceil x' 100 p.hi → Based p
hundredths low order high high' near fl ce = omega arith

pub based : {v : ℕ} {f p : Bounds} → Within 500 6000 v → Close f → Floor (v * f.lo) 100 p.lo → Ceil (v * f.hi) 100 p.hi → Based p
based {v} w c =
    hundredths (mul-le-mul w.least c.low) (mul-le-mul_left v c.order) (mul-le-mul w.most c.high) (mul-le-mul w.most c.high') (gap_times v c.near)

-- The factor alone is close enough, and so is the factor times the power.
pub factor_close : {g : Bounds} → Factor g → Close g
factor_close c = omega (arith, c)

pub times_close : {g x f : Bounds} {a b : ℕ} → Factor g → Fives a b → Power a b 2 9 x → Floor (g.lo * x.lo) (2 ^ 30) f.lo → Ceil (g.hi * x.hi) (2 ^ 30) f.hi → Close f
times_close {g} {x} {f} c near p fl ce =
    let low : 950000000 ≤ f.lo = floor_greatest fl 950000000 (mul-le-mul c.low p.low) in
    let gap : Gap 17152 (g.lo * x.lo) (g.hi * x.hi) = gap_product {j = 9700} {k = 7451} 1 (lit≤ tt) (omega (arith, c.near, c.low)) (omega (arith, p.near)) in
    record {
      low = low;
      order = omega (arith, mul-le-mul c.order p.order, fl.at_most, ce.at_least);
      high = omega (arith, mul-le-mul (le_trans c.order c.high) (power_most near p), fl.at_most);
      high' = ceil_least ce 1437500100 (le_trans (mul-le-mul c.high (power_most' near p)) (lit≤ tt));
      near = gap_cut 7848 (lit< tt) gap fl ce (omega arith);
    }

-- base over over is v, in 1/100 knot, times g, in 10^-9, times (a/b)^(2/9).
pub record DesignParts (v : ℕ) (g : Bounds) (a b : ℕ) (p : Split) : Type 0 where
  pub holds : (s : Side) → BoundsPower s (at s p.base * 100 * 2 ^ 30) (v * at s g * at (other s) p.over) a b 2 9
  pub parted : Parted p
  pub fast : 4750000000 ≤ p.base.hi
  pub slow : p.base.lo ≤ 86250000000
  pub thin : p.over.lo ≤ 23 * 2 ^ 26

module _ {v : ℕ} {g : Bounds} {a b : ℕ} (w : Within 500 6000 v) (c : Factor g) (f : Fives a b) where
  -- v times h over o, where h over o is g times a bound t / u of the power.
  designed : {h o : Bounds} (t u : Side → ℕ) → Close h → 2 ^ 30 ≤ o.lo → o.lo ≤ o.hi → o.hi ≤ 2 ^ 51 → o.hi * 2 ^ 27 ≤ o.lo * (2 ^ 27 + 1) → o.lo ≤ 23 * 2 ^ 26
      → ((s : Side) → 0 < u s) → ((s : Side) → Upto s (at s h * 2 ^ 30 * u s) (t s * at s g * at (other s) o)) → ((s : Side) → BoundsPower s (t s) (u s) a b 2 9)
      → DesignParts v g a b (record { base = times_of v h; over = o })
  designed {h} {o} t u close low order high near thin some part bound = go (floor_is _ 100 (lit< tt)) (ceil_is _ 100 (lit< tt))
    where
      product_some : (s : Side) → 0 < v * at s g * at (other s) o
      product_some s =
          mul-pos (mul-pos {m = v} (omega (arith, w.least)) (some_at (omega (arith, c.low)) c.order s)) (some_at (omega arith) order (other s))

      go : {l r : ℕ} → Floor (v * h.lo) 100 l → Ceil (v * h.hi) 100 r → DesignParts v g a b (record { base = pair l r; over = o })
      go {l} {r} fl ce =
          let base : Based (pair l r) = based {f = h} w close fl ce in
          record {
            holds = λ s. farther s (t s) (u s) _ _ a b 2 9 (product_some s) (some s) (cross s) (bound s);
            parted =
                record { low = base.low; order = base.order; high = base.high; near = base.near; over_low = low; over_order = order; over_high = high; over_near = near };
            fast = base.fast;
            slow = base.slow;
            thin = thin;
          }
        where
          cross : (s : Side) → Upto s (at s (pair l r) * 100 * 2 ^ 30 * u s) (t s * (v * at s g * at (other s) o))
          cross below = omega (arith, mul-le-mul_right (2 ^ 30 * u below) fl.at_most, mul-le-mul_left v (part below))
          cross above = omega (arith, mul-le-mul_right (2 ^ 30 * u above) ce.at_least, mul-le-mul_left v (part above))

  pub up_parts : b ≤ a → DesignParts v g a b (up_of v g a b)
  unfolding up_of
  up_parts h =
      let x = power_of a b 2 9 in
      let p = power_law (fives_raisable f h) in
      let fl = floor_is (g.lo * x.lo) (2 ^ 30) (lit< tt) in
      let ce = ceil_is (g.hi * x.hi) (2 ^ 30) (lit< tt) in
      designed (λ s. at s x) (λ s. unit) (times_close c f p fl ce) (le_refl _) (le_refl _) (lit≤ tt) (lit≤ tt) (lit≤ tt) (λ s. lit< tt)
      (λ s. elim s as (λ s. Upto s (at s (pair (g.lo * x.lo / 2 ^ 30) (ceil_of (g.hi * x.hi) (2 ^ 30))) * 2 ^ 30 * unit) (at s x * at s g * at (other s) (pair (2 ^ 30) (2 ^ 30)))) [ below ↦ omega (arith, fl.at_most) | above ↦ omega (arith, ce.at_least) ]) (power_at p)

  pub down_parts : a ≤ b → DesignParts v g a b (down_of v g a b)
  unfolding down_of
  down_parts h =
      let x = power_of b a 2 9 in
      let p = power_law (fives_raisable (turned f) h) in
      designed (λ s. unit) (λ s. at (other s) x) (factor_close c) p.low p.order p.high p.near (power_most (turned f) p)
      (λ s. some_at (omega (arith, p.low)) p.order (other s)) (λ s. elim s as (λ s. Upto s (at s g * 2 ^ 30 * at (other s) x) (unit * at s g * at (other s) x)) [ below ↦ omega arith | above ↦ omega arith ]) (inverse_at f.b_low f.a_low (lit< tt) p)

  pub parts : DesignParts v g a b (parts_of v g a b)
  unfolding parts_of
  parts = go (leb b a) refl
    where
      go : (t : Bool) → leb b a ≡ t → DesignParts v g a b (if t (up_of v g a b) (down_of v g a b))
      go true e = up_parts (leb-true b a e)
      go false e = down_parts (omega (arith, leb-false b a e))

-- ── The formula ─────────────────────────────────────────────────────────────────────────────

-- The trial's deadweight over Capacity, which is C in Capacity.
over_capacity : (t C : ℕ) → 0 < C → (s : Side) → bounds s (whole t ⊘ lit (C // 100)) ((t * 100) // C)
over_capacity t C pos s =
    let same : (t * 100) // C · C // 100 ≈ t // 1 = record { cross = rw (suc-pred-eq_of_pos pos) (omega arith) } in
    by_quotient (by_lit (lies_refl s _)) (by_lit (lies_refl (other s) _)) pos (lies-≈ s same)

-- k^(1/3) times T^(2/9) times v, where T is a / b.
module _ {T : Formula} {n v a b : ℕ} {g : Bounds} {p : Split} (e : (s : Side) → bounds s T (a // b)) (r : KRoot n g) (x : DesignParts v g a b p) (vpos : 0 < v) where
  factor_some : (s : Side) → 0 < at s g
  factor_some = some_at (omega (arith, r.size.low)) r.size.order

  over_some : (s : Side) → 0 < at s p.over
  over_some = some_at (omega (arith, x.parted.over_low)) x.parted.over_order

  parts_side : (s : Side) → bounds s (percent n ↑ (1 // 3) ⊗ T ↑ (2 // 9) ⊗ lit (v // 100)) ((at s p.base * 2 ^ 30) // (at (other s) p.over * 1000000000))
  parts_side s =
      by_product
      (by_product
      (by_power (by_lit (lies_refl s _)) (in_words (at s g) 1000000000 n 100 1 3 (r.holds s)))
      (by_power (e s) (in_words _ _ a b 2 9 (x.holds s)))
      (lies_refl s _))
      (by_lit (lies_refl s _))
      (lies-≈ s (whole_of (at s p.base) (at s g) (at (other s) p.over) (factor_some s) (over_some (other s))))
    where
      whole_of : (q f w : ℕ) → 0 < f → 0 < w → (q * 2 ^ 30) // (w * 1000000000) ≈ f // 1000000000 · (q * 100 * 2 ^ 30) // (v * f * w) · v // 100
      whole_of q f w fpos wpos =
          let z : 0 < v * f * w = mul-pos (mul-pos vpos fpos) wpos in
          let z' : 0 < w * 1000000000 = omega arith in
          record { cross = rw (suc-pred-eq_of_pos z, suc-pred-eq_of_pos z') (omega arith) }

module _ (tested : Deadweight) (kind : Kind) (dwt : Deadweight) (heavy : Within 100 600000 dwt.tonnes) (loaded : Near (100 * tested.tonnes) (Capacity kind dwt)) where
  pub fives : Fives (tested.tonnes * 100) (Capacity kind dwt)
  fives = omega (arith, Capacity_between kind dwt, heavy, loaded)

  module _ {v : ℕ} (w : Within 500 6000 v) (draught : ByDesignDraught kind) where
    root : KRoot (rules.k kind dwt) (k_root_of (rules.k kind dwt))
    root = k_root (rules.k kind dwt) (k_within kind dwt draught)

    pub design_parts : DesignParts v (k_root_of (rules.k kind dwt)) (tested.tonnes * 100) (Capacity kind dwt) (parts_of v (k_root_of (rules.k kind dwt)) (tested.tonnes * 100) (Capacity kind dwt))
    design_parts = parts w root.size fives

    pub design_speed : {kW P : ℕ} → 1 ≤ kW → P ≤ 36000000 → Near (100 * kW) P → Speed (V_ref (design_trial v kW tested) kind dwt (lit (P // 100))) (design_of v kW tested kind dwt P)
    unfolding V_ref design_of
    design_speed pos top near =
        let d = design_parts in
        measured d.parted (product_is d.parted (trial_moderate pos top near)) pos near d.fast d.slow d.thin
        (parts_side (over_capacity tested.tonnes (Capacity kind dwt) fives.b_low) root d (omega (arith, w.least)))

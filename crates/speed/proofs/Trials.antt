-- Methods 2 and 3 from their parts. Assumes nothing.
use Prim.Native.Nat.{ℕ, ◌*◌, ◌^◌, ◌≤◌, ◌<◌}
use native.Mathlib.Nat.{le_trans, le_of_mul-le-mul_right, mul-le-mul_left, mul-pos, suc-pred-eq_of_pos}
use native.Mathlib.Omega.{arith}
use lib.Dec.{lit<, lit≤}
use Rattle.formula.specs.Formula.{◌//◌, ◌≼◌, ◌·◌, ◌↥◌, Side, below, above, other, lies, at_most, at_least, Formula, lit, ◌⊗◌, ◌⊘◌, ◌↑◌, bounds, by_lit}
use Rattle.exact.specs.Ship.{Deadweight, Kind, trial}
use Rattle.formula.specs.Words.{whole}
use Rattle.exact.specs.Index.{V_ref}
use Rattle.formula.proofs.Wholes.{mul_pow, root_le}
use Rattle.formula.proofs.Fractions.{◌≈◌, ≈-sym, lies_refl, lies-≈}
use Rattle.number.specs.Ratio.{Moderate}
use Rattle.power.specs.declared.Bounds.{Bounds}
use Rattle.ship.specs.Accepted.{Within, Near}
use Rattle.propeller.specs.declared.Split.{Split}
use Rattle.propeller.specs.Propeller.{exactly, Parted, Speed}
use Rattle.speed.specs.Speeds.{undivided, trial_of}
use Rattle.propeller.proofs.Products.{Product, product_is}
use Rattle.propeller.proofs.Sides.{at, some_at, shape, Cubes, cubes}

-- ── A measured speed ────────────────────────────────────────────────────────────────────────

root_side : (s : Side) (t w b kW P : ℕ) → 0 < b * 2 ^ 30 → Cubes s t w b P (kW * 100) → lies s (((t * 1000 * w) // (b * 2 ^ 30)) ↥ 3 · kW // 1) (P // 100)
root_side below t w b kW P pos h = let c : ((t * 1000 * w) // (b * 2 ^ 30)) ↥ 3 · kW // 1 ≼ P // 100 = record { cross = rw (suc-pred-eq_of_pos pos) (omega arith) } in at_most c
root_side above t w b kW P pos h = let c : P // 100 ≼ ((t * 1000 * w) // (b * 2 ^ 30)) ↥ 3 · kW // 1 = record { cross = rw (suc-pred-eq_of_pos pos) (omega arith) } in at_least c

out : (t w b : ℕ) → 0 < b * 2 ^ 30 → 0 < w * 1000000000 → t // 1000000 ≈ (b * 2 ^ 30) // (w * 1000000000) · (t * 1000 * w) // (b * 2 ^ 30)
out t w b pos pos' = record { cross = rw (suc-pred-eq_of_pos pos, suc-pred-eq_of_pos pos') (omega arith) }

-- The cube root of 5 is at most 12/7.
five : (x y n d : ℕ) → 0 < n → d ≤ 5 * n → x ^ 3 * n ≤ y ^ 3 * d → x * 7 ≤ y * 12
five x y n d pos near h =
    root_le (x * 7) (y * 12) 3 (lit< tt)
    (rw (mul_pow x 7 3, mul_pow y 12 3) (le_of_mul-le-mul_right {k = n} (omega (arith, mul-le-mul_left (y ^ 3) near)) pos))

-- What methods 2 and 3 have in common: a base from 4.75 to 86.25 knots, divided by at most 23/16, and a power ratio from 1/5 to 5.
module _ {p : Split} {kW P : ℕ} {r : Bounds} (parted : Parted p) (x : Product p P (kW * 100) r) (pos : 1 ≤ kW) (near : Near (100 * kW) P)
    (fast : 4750000000 ≤ p.base.hi) (slow : p.base.lo ≤ 86250000000) (thin : p.over.lo ≤ 23 * 2 ^ 26) where
  base_some : (s : Side) → 0 < at s p.base * 2 ^ 30
  base_some below = omega (arith, parted.low)
  base_some above = omega arith

  over_some : (s : Side) → 0 < at s p.over * 1000000000
  over_some s = mul-pos (some_at (omega (arith, parted.over_low)) parted.over_order s) (lit< tt)

  measured_side : {B : Formula} → ((s : Side) → bounds s B ((at s p.base * 2 ^ 30) // (at (other s) p.over * 1000000000))) → (s : Side)
      → bounds s (B ⊗ (lit (P // 100) ⊘ whole kW) ↑ (1 // 3)) (at s r // 1000000)
  measured_side b s =
      shape ((at s r * 1000 * at (other s) p.over) // (at s p.base * 2 ^ 30)) (b s) (by_lit (lies_refl (other s) _)) pos
      (root_side s (at s r) (at (other s) p.over) (at s p.base) kW P (base_some s) (cubes x s))
      (lies-≈ s (out (at s r) (at (other s) p.over) (at s p.base) (base_some s) (over_some (other s))))

  pub measured : {B : Formula} → ((s : Side) → bounds s B ((at s p.base * 2 ^ 30) // (at (other s) p.over * 1000000000))) → Speed (B ⊗ (lit (P // 100) ⊘ whole kW) ↑ (1 // 3)) r
  measured b =
      let n = x.near in
      let low = five (p.base.hi * 2 ^ 30) (r.hi * 1000 * p.over.lo) P (kW * 100) (omega (arith, near.first)) (omega (arith, near.first)) x.above in
      let high = five (r.lo * 1000 * p.over.hi) (p.base.lo * 2 ^ 30) (kW * 100) P (omega arith) (omega (arith, near.second)) x.below in
      let l : 1910000 ≤ r.hi = omega (arith, low, mul-le-mul_left r.hi thin) in
      let h : r.lo ≤ 148000000 = omega (arith, high, mul-le-mul_left r.lo (le_trans parted.over_low parted.over_order)) in
      record { encloses = record { low = measured_side b below; high = measured_side b above }; near = n; slow = omega arith; fast = omega arith }

pub trial_moderate : {kW P : ℕ} → 1 ≤ kW → P ≤ 36000000 → Near (100 * kW) P → Moderate P (kW * 100)
trial_moderate pos top near = record { some = omega arith; eighth = omega (arith, near.first); small = omega arith }

-- ── Method 2 ────────────────────────────────────────────────────────────────────────────────

pub trial_parted : {v : ℕ} → Within 500 6000 v → Parted (undivided (exactly (v * 10000000)))
trial_parted w = let low = w.least in let high = w.most in omega arith

pub trial_speed : {v kW P : ℕ} (kind : Kind) (dwt : Deadweight) → Within 500 6000 v → 1 ≤ kW → P ≤ 36000000 → Near (100 * kW) P → Speed (V_ref (trial v kW) kind dwt (lit (P // 100))) (trial_of v kW P)
unfolding V_ref trial_of
trial_speed {v} kind dwt w pos top near =
    measured (trial_parted w) (product_is (trial_parted w) (trial_moderate pos top near)) pos near (omega (arith, w.least)) (omega (arith, w.most)) (lit≤ tt) base
  where
    same : v // 100 ≈ (v * 10000000 * 2 ^ 30) // (2 ^ 30 * 1000000000)
    same = omega arith

    base : (s : Side) → bounds s (lit (v // 100)) ((at s (exactly (v * 10000000)) * 2 ^ 30) // (at (other s) (exactly (2 ^ 30)) * 1000000000))
    base below = by_lit (lies-≈ below (≈-sym same))
    base above = by_lit (lies-≈ above (≈-sym same))

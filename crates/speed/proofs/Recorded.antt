-- Each factor of a trial's speed that is a power of 1 is exactly 1, and the others alone decide; where all are, both ends are the speed as it was
-- recorded. Assumes nothing.
use mathlib.Core.Path.{◌≡◌, refl, sym, ap₂, ◌∙◌}
use Prim.Native.Nat.{ℕ, ◌*◌, ◌/◌, ◌^◌, ◌≤◌}
use native.Mathlib.Nat.{le_of_eq}
use native.Mathlib.Omega.{arith}
use lib.Dec.{lit<}
use borrow.Author.Tests.{le-leb}
use Rattle.exact.specs.Ship.{Deadweight, Kind}
use Rattle.exact.specs.Index.{Capacity, k}
use Rattle.number.specs.Division.{ceil_of}
use Rattle.number.proofs.Divisions.{multiple}
use Rattle.power.specs.declared.Bounds.{Bounds}
use Rattle.power.proofs.Laws.{power_law}
use Rattle.ship.specs.Accepted.{Within, Near}
use Rattle.propeller.specs.Propeller.{pair, exactly, speed_from}
use Rattle.propeller.proofs.Products.{at_one}
use Rattle.speed.specs.Speeds.{undivided, trial_of, k_root_of, Fives, times_of, up_of, parts_of, design_of}
use Rattle.speed.proofs.Trials.{trial_parted, trial_moderate}
use Rattle.speed.proofs.Designs.{k_raisable, fives_raisable, fives}

-- The cube root of k.
pub k_one : (n : ℕ) → n ≡ 100 → k_root_of n ≡ exactly 1000000000
unfolding k_root_of
k_one n e =
    let full : Within 90 100 n = omega (arith, e) in
    rw ((power_law (k_raisable n full)).of_one (sym e)) refl

-- The trial's deadweight over Capacity.
pub draught_one : {a b : ℕ} (v : ℕ) (g : Bounds) → Fives a b → a ≡ b → parts_of v g a b ≡ undivided (times_of v g)
unfolding parts_of up_of
draught_one {a} {b} v g f e =
    let full : b ≤ a = le_of_eq (sym e) in
    rw (le-leb b a full, (power_law (fives_raisable f full)).of_one e, (multiple {q = g.lo} (lit< tt) refl).0, (multiple {q = g.hi} (lit< tt) refl).1) refl

-- The power at the trial over the sum of P_ME, where the rest is v.
pub power_one : {v kW P : ℕ} → Within 500 6000 v → 1 ≤ kW → P ≤ 36000000 → Near (100 * kW) P → P ≡ 100 * kW
    → speed_from (undivided (exactly (v * 10000000))) P (kW * 100) ≡ exactly (v * 10000)
power_one {v} {kW} w pos top near e = at_one (trial_parted w) (trial_moderate pos top near) (omega (arith, e)) ∙ ap₂ pair whole.0 whole.1
  where
    whole : (v * 10000000 * 2 ^ 30 / (2 ^ 30 * 1000) ≡ v * 10000) × (ceil_of (v * 10000000 * 2 ^ 30) (2 ^ 30 * 1000) ≡ v * 10000)
    whole = multiple (lit< tt) (omega arith)

-- A speed with nothing but 1 before it.
whole_parts : (v : ℕ) → times_of v (exactly 1000000000) ≡ exactly (v * 10000000)
whole_parts v = ap₂ pair whole.0 whole.1
  where
    whole : (v * 1000000000 / 100 ≡ v * 10000000) × (ceil_of (v * 1000000000) 100 ≡ v * 10000000)
    whole = multiple (lit< tt) (omega arith)

-- ── Where every power is one of 1 ───────────────────────────────────────────────────────────

pub trial_recorded : {v kW P : ℕ} → Within 500 6000 v → 1 ≤ kW → P ≤ 36000000 → Near (100 * kW) P → P ≡ 100 * kW → trial_of v kW P ≡ exactly (v * 10000)
unfolding trial_of
trial_recorded = power_one

pub design_recorded : {v kW P : ℕ} (tested : Deadweight) (kind : Kind) (dwt : Deadweight) → Within 100 600000 dwt.tonnes → Near (100 * tested.tonnes) (Capacity kind dwt)
    → Within 500 6000 v → 1 ≤ kW → P ≤ 36000000 → Near (100 * kW) P → P ≡ 100 * kW → k kind dwt ≡ 100 → Capacity kind dwt ≡ 100 * tested.tonnes
    → design_of v kW tested kind dwt P ≡ exactly (v * 10000)
unfolding design_of
design_recorded {v} tested kind dwt heavy loaded w pos top near e f g =
    rw (k_one (k kind dwt) f, draught_one v (exactly 1000000000) (fives tested kind dwt heavy loaded) (omega (arith, g)), whole_parts v) (power_one w pos top near e)

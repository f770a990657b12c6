-- The speed of each method as a pair, by a name that other crates keep shut: its laws (proofs/Laws.antt) are all that they use of it. Only
-- desk opens it, to compute the figures worked by hand.
-- Assumes nothing.
use Rattle.std.specs.Prelude.{ℕ, ◌+◌, ◌*◌, ◌/◌, ◌^◌, ◌≤◌, ◌<◌, leb}
use Rattle.exact.specs.Ship.{Deadweight, Kind, Method, declared, trial, design_trial, statistical}
use Rattle.formula.specs.Words.{if}
use Rattle.exact.specs.Index.{Capacity, k}
use Rattle.number.specs.Division.{ceil_of}
use Rattle.power.specs.declared.Bounds.{Bounds}
use Rattle.power.specs.Power.{power_of}
use Rattle.ship.specs.Accepted.{Within, Near, ByDesignDraught}
use Rattle.propeller.specs.declared.Split.{Split}
use Rattle.propeller.specs.Propeller.{pair, exactly, speed_from}
use Rattle.statistical.specs.Curves.{statistical_of}

-- ── Methods 2 and 3 ─────────────────────────────────────────────────────────────────────────

abbrev pub undivided : Bounds → Split
undivided base = record { base = base; over = exactly (2 ^ 30) }

-- v in 1/100 knot at a trial of so many kW.
unfoldable pub trial_of : (v kW P : ℕ) → Bounds
trial_of v kW P = speed_from (undivided (exactly (v * 10000000))) P (kW * 100)

-- The cube root of k / 100, in 10^-9.
unfoldable pub k_root_of : ℕ → Bounds
k_root_of n = let y = power_of 100 n 1 3 in pair (1073741824000000000 / y.hi) (ceil_of 1073741824000000000 y.lo)

-- Two close ends of a factor just below 1, in 10^-9.
pub record Factor (g : Bounds) : Type 0 where
  pub near : g.hi * 2 ^ 27 ≤ (g.lo + 2) * (2 ^ 27 + 1)
  pub low : 950000000 ≤ g.lo
  pub order : g.lo ≤ g.hi
  pub high : g.hi ≤ 1000000000

-- a and b differ by a factor of at most 5.
pub record Fives (a b : ℕ) : Type 0 where
  pub a_low : 1 ≤ a
  pub b_low : 1 ≤ b
  pub a_high : a < 2 ^ 32
  pub b_high : b < 2 ^ 32
  pub near : Near a b

-- v in 1/100 knot times g in 10^-9, as 10^-9 knot.
abbrev pub times_of : ℕ → Bounds → Bounds
times_of v g = pair (v * g.lo / 100) (ceil_of (v * g.hi) 100)

-- v g (a/b)^(2/9), where a/b is at least 1; and where it is less, over (b/a)^(2/9).
unfoldable pub up_of : ℕ → Bounds → (a b : ℕ) → Split
up_of v g a b = let x = power_of a b 2 9 in undivided (times_of v (pair (g.lo * x.lo / 2 ^ 30) (ceil_of (g.hi * x.hi) (2 ^ 30))))

unfoldable pub down_of : ℕ → Bounds → (a b : ℕ) → Split
down_of v g a b = record { base = times_of v g; over = power_of b a 2 9 }

unfoldable pub parts_of : ℕ → Bounds → (a b : ℕ) → Split
parts_of v g a b = if (leb b a) (up_of v g a b) (down_of v g a b)

-- The trial's deadweight is tested; Capacity is in hundredths.
unfoldable pub design_of : (v kW : ℕ) → Deadweight → Kind → Deadweight → ℕ → Bounds
design_of v kW tested kind dwt P =
    speed_from (parts_of v (k_root_of (k kind dwt)) (tested.tonnes * 100) (Capacity kind dwt)) P (kW * 100)

-- ── Every method ────────────────────────────────────────────────────────────────────────────

-- V_ref in millionths of a knot; P is the sum of P_ME in 1/100 kW.
unfoldable pub speed_by : Method ℕ → Kind → Deadweight → ℕ → Bounds
speed_by (declared v) kind dwt P = exactly (v * 10000)
speed_by (trial v kW) kind dwt P = trial_of v kW P
speed_by (design_trial v kW tested) kind dwt P = design_of v kW tested kind dwt P
speed_by statistical kind dwt P = statistical_of kind dwt P

-- What the rules leave of each method.
abbrev pub Fitting : Method ℕ → Kind → Deadweight → ℕ → Type 0
Fitting (declared v) kind dwt P = Within 500 6000 v
Fitting (trial v kW) kind dwt P = Within 500 6000 v × Within 1 600000 kW × Near (100 * kW) P
Fitting (design_trial v kW tested) kind dwt P =
    Within 500 6000 v × Within 1 600000 kW × Near (100 * kW) P × Near (100 * tested.tonnes) (Capacity kind dwt) × ByDesignDraught kind
Fitting statistical kind dwt P = Unit {0}

pub record AcceptedSpeed (m : Method ℕ) (kind : Kind) (dwt : Deadweight) (P : ℕ) : Type 0 where
  pub deadweight : Within 100 600000 dwt.tonnes
  pub power : Within 7500 36000000 P
  pub method : Fitting m kind dwt P

-- The bounds of one ship's index, by names that other crates keep shut: their laws (proofs/Laws.antt) are all that they use of them. Only
-- desk opens them, to compute the figures worked by hand.
-- Assumes nothing.
use Rattle.std.specs.Prelude.{ℕ, ◌+◌, ◌*◌, ◌/◌, ◌^◌, ◌≤◌, ◌<◌}
use Rattle.formula.specs.Formula.{◌//◌, Formula, Enclosed}
use Rattle.exact.specs.Ship.{Kind, bulk, gas, tanker, container, refrigerated, combination, vehicle, general, Hull, Figures}
use Rattle.exact.specs.Ranges.{Range, most_favourable, least_favourable}
use Rattle.number.specs.Division.{ceil_of}
use Rattle.number.specs.Product.{scaled_down, scaled_up}
use Rattle.power.specs.declared.Bounds.{Bounds}
use Rattle.ship.specs.Accepted.{Within}
use Rattle.plant.specs.Plant.{main_N, auxiliary_N, load_of, P_ME_of}
use Rattle.factor.specs.Factor.{factor_by}
use Rattle.propeller.specs.Propeller.{pair, exactly}
use Rattle.correction.specs.Correction.{general_of}
use Rattle.speed.specs.Speeds.{speed_by}
use Rattle.index.specs.declared.SpeedBounds.{SpeedBounds}
use Rattle.index.specs.declared.Index.{Index}

-- ── From emissions n in 10^-7 g/h, Capacity times f_i and f_m in 10^-4 t, a speed in 10^-6 knot and f_c times f_l in 2^-30 ──

-- f_c times f_l in millionths, rounded down and up.
abbrev pub millionths_down : ℕ → ℕ
millionths_down c = c * 1000000 / 2 ^ 30

abbrev pub millionths_up : ℕ → ℕ
millionths_up c = ceil_of (c * 1000000) (2 ^ 30)

-- n / (load v c) in millionths of a gram per tonne and mile, rounded down and up, once.
unfoldable pub index_down : (n load v c : ℕ) → ℕ
index_down n load v c = n * 10 ^ 15 / (load * v * millionths_up c)

unfoldable pub index_up : (n load v c : ℕ) → ℕ
index_up n load v c = ceil_of (n * 10 ^ 15) (load * v * millionths_down c)

-- Sizes at which every step fits.
pub record Sized (n load v c : ℕ) : Type 0 where
  pub emitted : n ≤ 6000000000000000
  pub loaded : Within 700000 6468000000 load
  pub moving : Within 1900000 230000000 v
  pub factored : Within (2 ^ 30) (4156 * 2 ^ 30) c

-- ── Of one ship ─────────────────────────────────────────────────────────────────────────────

-- The speed in millionths of a knot.
unfoldable pub speed_of : Figures ℕ → Bounds
speed_of f = speed_by f.method f.ship.kind f.ship.deadweight (P_ME_of f)

-- n of the main engines times f_j, which only a general cargo ship has; v is the speed's pair.
unfoldable pub main_of : Kind → Bounds → Hull → ℕ → Bounds
main_of general v h n = pair (scaled_down n (general_of v h).lo) (scaled_up n (general_of v h).hi)
main_of bulk v h n = exactly n
main_of gas v h n = exactly n
main_of tanker v h n = exactly n
main_of container v h n = exactly n
main_of refrigerated v h n = exactly n
main_of combination v h n = exactly n
main_of vehicle v h n = exactly n

-- The emissions in 10^-7 g/h, from below and from above.
unfoldable pub emitted : Figures ℕ → Bounds
emitted f =
    let m = main_of f.ship.kind (speed_of f) f.ship.hull (main_N f) in
    pair (m.lo + auxiliary_N f) (m.hi + auxiliary_N f)

-- What may be used of it: the two ends enclose the formula, and differ by at most five millionths of the lower.
pub record Emission (e : Formula) (r : Bounds) : Type 0 where
  pub encloses : Enclosed e (r.lo // 10000000) (r.hi // 10000000)
  pub near : r.hi * 1000000 ≤ r.lo * 1000005
  pub order : r.lo ≤ r.hi
  pub some : 0 < r.lo
  pub most : r.hi ≤ 6000000000000000

-- f_c times f_l in 2^-30.
unfoldable pub factor_of : Figures ℕ → Bounds
factor_of f = factor_by f.ship.kind f.ship

-- The lower bound takes the lower emissions over the upper speed and factor, and the upper bound the reverse.
unfoldable pub lower_of : Figures ℕ → ℕ
lower_of f = index_down (emitted f).lo (load_of f.ship) (speed_of f).hi (factor_of f).hi

unfoldable pub upper_of : Figures ℕ → ℕ
upper_of f = index_up (emitted f).hi (load_of f.ship) (speed_of f).lo (factor_of f).lo

-- ── Of a ship with ranges ───────────────────────────────────────────────────────────────────

-- The speed bounds of the most and of the least favourable ship.
unfoldable pub speeds_of : Figures Range → SpeedBounds
speeds_of r = record { most = speed_of (most_favourable r); least = speed_of (least_favourable r) }

-- The lower bound is the most favourable ship's, the upper bound the least favourable's.
unfoldable pub index_of : Figures Range → Index
index_of r = record { lower = lower_of (most_favourable r); upper = upper_of (least_favourable r) }

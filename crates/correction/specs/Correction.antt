-- f_j of general cargo ships as a pair, by a name that other crates keep shut: its laws (proofs/Laws.antt) are all that they use of it.
-- Assumes nothing.
use Rattle.std.specs.Prelude.{ℕ, ◌+◌, ◌-◌, ◌*◌, ◌/◌, ◌^◌, ◌≤◌, ◌<◌, min, max}
use Rattle.formula.specs.Formula.{◌//◌, Formula, Enclosed}
use Rattle.exact.specs.Ship.{Hull}
use Rattle.number.specs.Division.{ceil_of}
use Rattle.number.specs.Product.{scaled_down, scaled_up}
use Rattle.power.specs.declared.Bounds.{Bounds}
use Rattle.power.specs.Numbers.{unit}
use Rattle.power.specs.Power.{power_of}
use Rattle.propeller.specs.Propeller.{pair}

-- Both ends within least–most, and in order.
pub record Between (least most : ℕ) (r : Bounds) : Type 0 where
  pub low : least ≤ r.lo
  pub order : r.lo ≤ r.hi
  pub high : r.hi ≤ most

-- A speed from 1.9 to 230 knots, in millionths.
abbrev pub Fast : Bounds → Type 0
Fast = Between 1900000 230000000

-- ── Froude's number ─────────────────────────────────────────────────────────────────────────

-- 1/Fn is counted in units of 1 / (15 * 2^26), of which its limits are whole numbers: 5/3, where Fn is 0.6, and 12/5, from where on f_j
-- is 1 for every hull.
abbrev pub limited : ℕ → ℕ
limited a = min (max a (25 * 2 ^ 26)) (36 * 2 ^ 26)

-- From w, the sixth root of the volume in 2^-30, and v in millionths of a knot. The root of 9.81 stands between 78888 / 25187 and
-- 225899 / 72124; 750 * 1250^2 / 643 is what the units and 0.5144 leave.
unfoldable pub inverse_froude_down : (w v : ℕ) → ℕ
inverse_froude_down w v = w * (78888 * 750) * 1250 ^ 2 / (v * (25187 * 643))

unfoldable pub inverse_froude_up : (w v : ℕ) → ℕ
inverse_froude_up w v = ceil_of (w * (225899 * 750) * 1250 ^ 2) (v * (72124 * 643))

-- The faster the ship, the less is 1/Fn: the lower end has the upper speed.
abbrev pub sixth_root : Hull → Bounds
sixth_root h = power_of h.volume 1 1 6

unfoldable pub inverse_froude : Bounds → Hull → Bounds
inverse_froude v h = pair (limited (inverse_froude_down (sixth_root h).lo v.hi)) (limited (inverse_froude_up (sixth_root h).hi v.lo))

abbrev pub WithinLimits : Bounds → Type 0
WithinLimits = Between (25 * 2 ^ 26) (36 * 2 ^ 26)

-- ── The block coefficient ───────────────────────────────────────────────────────────────────

-- 1/C_b in units of 2^-28, rounded down; from 12 on f_j is 1 at every speed.
unfoldable pub inverse_block : Hull → ℕ
inverse_block h = min (h.length * h.breadth * h.draught * 16384 ^ 2 / (h.volume * 1000000)) (12 * 2 ^ 28)

-- ── The power 3/10 of both ──────────────────────────────────────────────────────────────────

-- a / u from 1 to 12, and b at most half as large again as a.
pub record Spread (u a b : ℕ) : Type 0 where
  pub some : 1 ≤ u
  pub from_one : u ≤ a
  pub moderate : a ≤ 12 * u
  pub small : a < 2 ^ 32
  pub order : a ≤ b
  pub near : 2 * b ≤ 3 * a

-- Of what stands between a / u and b / u: one power serves both ends, since that of b / a is at most 1 + 3/10 (b - a) / a.
unfoldable pub raised_of : (u a b : ℕ) → Bounds
raised_of u a b = let y = power_of a u 3 10 in pair y.lo (y.hi + ceil_of (y.hi * (3 * (b - a))) (10 * a))

-- Of 1/Fn, and of 1/C_b, whose upper end is the next unit.
abbrev pub speed_part : Bounds → Hull → Bounds
speed_part v h = raised_of (15 * 2 ^ 26) (inverse_froude v h).lo (inverse_froude v h).hi

abbrev pub hull_part : Hull → Bounds
hull_part h = raised_of (2 ^ 28) (inverse_block h) (inverse_block h + 1)

-- ── The product ─────────────────────────────────────────────────────────────────────────────

-- 0.174 / Fn^2 in 2^-30.
unfoldable pub squared_of : Bounds → Bounds
squared_of a = pair (29 * (a.lo * a.lo / 2 ^ 22) / 37500) (ceil_of (29 * ceil_of (a.hi * a.hi) (2 ^ 22)) 37500)

-- Products of at most 93 bits.
pub record Scalable (n p : Bounds) : Type 0 where
  pub lows : n.lo * p.lo < 2 ^ 93
  pub highs : n.hi * p.hi < 2 ^ 93

abbrev pub scaled_of : (n p : Bounds) → Bounds
scaled_of n p = pair (scaled_down n.lo p.lo) (scaled_up n.hi p.hi)

abbrev pub capped_of : ℕ → ℕ
capped_of n = min n unit

-- From 1/Fn and the powers 3/10 of 1/Fn and of 1/C_b.
unfoldable pub product_of : (a y c : Bounds) → Bounds
product_of a y c = let f = scaled_of (squared_of a) (scaled_of y c) in pair (capped_of f.lo) (capped_of f.hi)

-- The lower and the upper end, in units of 2^-30. Their last digits are a matter of this definition, and not of the rules.
unfoldable pub general_of : Bounds → Hull → Bounds
general_of v h = product_of (inverse_froude v h) (speed_part v h) (hull_part h)

-- What may be used of it: the two ends enclose the formula, and are from 0.46 up to 1.
pub record Corrected (f : Formula) (r : Bounds) : Type 0 where
  pub encloses : Enclosed f (r.lo // unit) (r.hi // unit)
  pub low : 500000000 ≤ r.lo
  pub order : r.lo ≤ r.hi
  pub high : r.hi ≤ unit

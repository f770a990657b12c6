-- The propeller law: a speed times the cube root of a ratio of powers, as a pair, by a name that each method keeps shut.
-- Assumes nothing.
use Rattle.std.specs.Prelude.{ℕ, ◌+◌, ◌*◌, ◌/◌, ◌^◌, ◌≤◌}
use Rattle.formula.specs.Formula.{◌//◌, Formula, Enclosed}
use Rattle.number.specs.Division.{ceil_of}
use Rattle.number.specs.Ratio.{cube_root_of}
use Rattle.power.specs.declared.Bounds.{Bounds}
use Rattle.propeller.specs.declared.Split.{Split}

abbrev pub pair : ℕ → ℕ → Bounds
pair lo hi = record { lo = lo; hi = hi }

abbrev pub exactly : ℕ → Bounds
exactly n = pair n n

-- A speed in 10^-9 knot over a divisor in 2^-30, the two ends of each close.
pub record Parted (s : Split) : Type 0 where
  pub low : 1000000000 ≤ s.base.lo
  pub order : s.base.lo ≤ s.base.hi
  pub high : s.base.hi ≤ 2 ^ 38
  pub near : s.base.hi * 100000000 ≤ s.base.lo * 100000003
  pub over_low : 2 ^ 30 ≤ s.over.lo
  pub over_order : s.over.lo ≤ s.over.hi
  pub over_high : s.over.hi ≤ 2 ^ 51
  pub over_near : s.over.hi * 2 ^ 27 ≤ s.over.lo * (2 ^ 27 + 1)

-- base / over times the cube root of n / d, in millionths of a knot, rounded once.
unfoldable pub speed_from : Split → (n d : ℕ) → Bounds
speed_from s n d =
    let r = cube_root_of n d in
    pair
    (s.base.lo * r.low * 2 ^ 30 / (s.over.hi * (r.scale * 1000)))
    (ceil_of (s.base.hi * r.high * 2 ^ 30) (s.over.lo * (r.scale * 1000)))

-- What may be used of a speed: the two ends enclose the formula, and differ by at most a millionth of the upper and 2.
pub record Speed (e : Formula) (r : Bounds) : Type 0 where
  pub encloses : Enclosed e (r.lo // 1000000) (r.hi // 1000000)
  pub near : r.hi * 1000000 ≤ r.lo * 1000000 + r.hi + 2000000
  pub slow : 1900000 ≤ r.lo
  pub fast : r.hi ≤ 230000000

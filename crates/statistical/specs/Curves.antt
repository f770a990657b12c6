-- The speed of method 4 as a pair, by a name that `speed` keeps shut.
-- Assumes nothing.
use Rattle.std.specs.Prelude.{◌≡◌, ℕ, ◌+◌, ◌-◌, ◌*◌, ◌/◌, leb}
use Rattle.exact.specs.Ship.{Deadweight, Kind}
use Rattle.formula.specs.Words.{if}
use Rattle.exact.specs.Index.{row, sized}
use Rattle.power.specs.declared.Bounds.{Bounds}
use Rattle.power.specs.Power.{power_of}
use Rattle.propeller.specs.Propeller.{pair, speed_from}
use Rattle.statistical.specs.declared.Row.{Row}

-- A row of the table as the code has it.
pub record RowOf (kind : Kind) (r : Row) : Type 0 where
  pub a_is : r.a ≡ (row kind).A
  pub c_is : r.c ≡ (row kind).C
  pub d_is : r.d ≡ (row kind).D
  pub f_is : r.f ≡ (row kind).F

-- V_avg in 10^-9 knot: A, in ten-thousandths, times 10^5 / 2^30.
unfoldable pub average_of : Kind → Deadweight → Bounds
average_of kind dwt =
    let x = power_of (sized 80000 kind dwt) 1 (row kind).C 100000 in
    let t = (row kind).A * 3125 in
    pair (t * x.lo / 33554432) (t * x.hi / 33554432 + 1)

-- The larger of 0.95 v and v - 1 knot, rounded down.
unfoldable pub less_margin_of : ℕ → ℕ
less_margin_of v = if (leb v 20000000000) (v * 95 / 100) (v - 1000000000)

-- V_avg - m_V over E^(F/3): the third of F goes into the power, so that what stands under the root is exact.
unfoldable pub statistical_of : Kind → Deadweight → ℕ → Bounds
statistical_of kind dwt P =
    let v = average_of kind dwt in
    let base = pair (less_margin_of v.lo) (less_margin_of v.hi + 1) in
    speed_from (record { base = base; over = power_of (sized 95000 kind dwt) 1 (row kind).F 300000 }) (P * 400) (3 * (row kind).D)

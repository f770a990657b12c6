-- Trials worked by hand: 10.00 knots at 2,000 kW, where the sum of P_ME is 6,750 kW, make 15 knots; 14.50 knots at the sum of P_ME are 14.50.
-- Assumes nothing.
use mathlib.Core.Path.{◌≡◌, refl}
use Prim.Native.Nat.{◌≤◌}
use native.Mathlib.Omega.{arith}
use Rattle.formula.specs.Formula.{◌//◌, ◌≼◌, ◌·◌, ◌↥◌, Side, below, above, lit, bounds, by_lit, by_product, by_quotient, by_power}
use Rattle.exact.specs.Ship.{Deadweight, Kind, trial}
use Rattle.exact.specs.Index.{V_ref, at_P_ME}
use Rattle.formula.proofs.Fractions.{◌≈◌, lies_refl, lies-≈}
use Rattle.formula.proofs.Formulas.{consistent}
use Rattle.ship.specs.Accepted.{Within}
use Rattle.propeller.specs.Propeller.{exactly}
use Rattle.speed.specs.Speeds.{AcceptedSpeed, speed_by}
use Rattle.speed.proofs.Laws.{speed_law, recorded_exact}

module _ (kind : Kind) (dwt : Deadweight) where
  -- 10 × (6,750 / 2,000) ^ (1/3) is 15 on both sides: 27/8 is the cube of 3/2.
  fifteen : (s : Side) → bounds s (V_ref (trial 1000 2000) kind dwt (lit (675000 // 100))) (15 // 1)
  unfolding V_ref
  fifteen s =
      let ratio : 27 // 8 · 2000 // 1 ≈ 675000 // 100 = omega arith in
      let cube : 3 // 2 ↥ 3 ≈ 27 // 8 ↥ 1 = omega arith in
      let knots : 15 // 1 ≈ 1000 // 100 · 3 // 2 = omega arith in
      by_product {v = 3 // 2} (by_lit (lies_refl s _))
      (by_power {u = 27 // 8} (by_quotient {v = 2000 // 1} (by_lit (lies_refl s _)) (by_lit (lies_refl _ _)) (omega arith) (lies-≈ s ratio)) (record { whole = lies-≈ s cube }))
      (lies-≈ s knots)

  pub fifteen_knots : Within 100 600000 dwt.tonnes → ((speed_by (trial 1000 2000) kind dwt 675000).lo ≤ 15000000) × (15000000 ≤ (speed_by (trial 1000 2000) kind dwt 675000).hi)
  fifteen_knots w =
      let asked : AcceptedSpeed (trial 1000 2000) kind dwt 675000 = record { deadweight = w; power = omega arith; method = omega arith } in
      let v = speed_law (trial 1000 2000) kind dwt 675000 asked in
      let low : (speed_by (trial 1000 2000) kind dwt 675000).lo // 1000000 ≼ 15 // 1 = consistent _ v.encloses.low (fifteen above) in
      let high : 15 // 1 ≼ (speed_by (trial 1000 2000) kind dwt 675000).hi // 1000000 = consistent _ (fifteen below) v.encloses.high in
      (omega (arith, low.cross), omega (arith, high.cross))

  -- The surveyor's 14.50 knots in a trial at the sum of P_ME, 6,000 kW.
  pub fourteen_fifty : Within 100 600000 dwt.tonnes → speed_by (trial 1450 6000) kind dwt 600000 ≡ exactly 14500000
  fourteen_fifty w = recorded_exact (record { deadweight = w; power = omega arith; method = omega arith }) (at_P_ME refl)

-- The law of the speed by name, for every method: what its users may know of it. Assumes nothing.
use Prim.Native.Nat.{ℕ, ◌*◌}
use mathlib.Core.Path.{◌≡◌, refl}
use native.Mathlib.Omega.{arith}
use Rattle.formula.specs.Formula.{◌//◌, below, above, lit, by_lit}
use Rattle.exact.specs.Ship.{Deadweight, Kind, Method, declared, trial, design_trial, statistical}
use Rattle.exact.specs.Index.{V_ref, AsRecorded, without_trial, at_P_ME, at_P_ME_and_Capacity}
use Rattle.formula.proofs.Fractions.{◌≈◌, lies-≈}
use Rattle.ship.specs.Accepted.{Within}
use Rattle.propeller.specs.Propeller.{exactly, Speed}
use Rattle.speed.specs.Speeds.{AcceptedSpeed, speed_by}
use Rattle.statistical.proofs.Statistics.{statistical_speed}
use Rattle.speed.proofs.Trials.{trial_speed}
use Rattle.speed.proofs.Designs.{design_speed}
use Rattle.speed.proofs.Recorded.{trial_recorded, design_recorded}

-- A declared speed is exactly itself.
pub declared_exact : (v : ℕ) (kind : Kind) (dwt : Deadweight) (P : ℕ) → speed_by (declared v) kind dwt P ≡ exactly (v * 10000)
unfolding speed_by
declared_exact v kind dwt P = refl

declared_speed : {v : ℕ} → Within 500 6000 v → Speed (lit (v // 100)) (exactly (v * 10000))
declared_speed {v} w =
    let same : (v * 10000) // 1000000 ≈ v // 100 = omega arith in
    record {
      encloses = record { low = by_lit (lies-≈ below same); high = by_lit (lies-≈ above same) };
      near = omega arith;
      slow = omega (arith, w.least);
      fast = omega (arith, w.most);
    }

pub speed_law : (m : Method ℕ) (kind : Kind) (dwt : Deadweight) (P : ℕ) → AcceptedSpeed m kind dwt P → Speed (V_ref m kind dwt (lit (P // 100))) (speed_by m kind dwt P)
unfolding V_ref speed_by
speed_law (declared v) kind dwt P a = declared_speed a.method
speed_law (trial v kW) kind dwt P a = trial_speed kind dwt a.method.0 a.method.1.least a.power.most a.method.2
speed_law (design_trial v kW tested) kind dwt P a =
    design_speed tested kind dwt a.deadweight a.method.3 a.method.0 a.method.4 a.method.1.least a.power.most a.method.2
speed_law statistical kind dwt P a = statistical_speed kind dwt P a.deadweight a.power

-- Where every power in it is one of 1, both ends are the speed as it was recorded.
pub recorded_exact : {m : Method ℕ} {kind : Kind} {dwt : Deadweight} {P v : ℕ} → AcceptedSpeed m kind dwt P → AsRecorded m kind dwt P v → speed_by m kind dwt P ≡ exactly (v * 10000)
unfolding speed_by
recorded_exact {kind = kind} {dwt} {P} {v} a without_trial = declared_exact v kind dwt P
recorded_exact a (at_P_ME e) = trial_recorded a.method.0 a.method.1.least a.power.most a.method.2 e
recorded_exact {dwt = dwt} a (at_P_ME_and_Capacity {kind = kind} {tested = tested} e f g) =
    design_recorded tested kind dwt a.deadweight a.method.3 a.method.0 a.method.1.least a.power.most a.method.2 e f g

-- What the numbers of an engine entry come to, at either end of its ranges.
-- Assumes nothing.
use Prim.Native.Nat.{◌≤◌}
use mathlib.Core.Bool.{Bool}
use Rattle.ship.specs.Figures.{range_of, uses_of, Fuelled, engine_of}
use Rattle.ship.specs.Accepted.{Measured}
use Rattle.ship.specs.declared.Engine.{Engine}
use Rattle.plant.specs.Plant.{end, Entered}
use Rattle.plant.proofs.Growth.{end_within, engine_limit}

pub record AcceptedEngine (high : Bool) (e : Engine) : Type 0 where
  pub mcr : end high (range_of e.mcr) ≤ 120000
  pub limit : e.limit ≤ 120000
  pub uses : Measured (uses_of e.uses) × Fuelled e.uses

pub engine_accepted : (high : Bool) (e : Engine) → Entered e → AcceptedEngine high e
unfolding engine_of
engine_accepted high e (r, f) = record { mcr = (end_within high r.mcr).most; limit = engine_limit r; uses = (r.uses, f) }

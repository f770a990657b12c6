-- What the emissions and the load of an accepted record are worked out from.
-- Assumes nothing.
use Prim.Native.Nat.{ℕ, ◌*◌, ◌≤◌, ◌<◌}
use mathlib.Core.Path.{◌≡◌, refl}
use mathlib.Core.Bool.{Bool}
use native.Mathlib.Omega.{arith}
use lib.ListN.{length, get_or, take}
use Rattle.std.proofs.lemmas.List.{get_or-take, length-take}
use Rattle.exact.specs.Ship.{Auxiliary, Consumption}
use Rattle.exact.specs.Ranges.{Range, uses_at, engines_at, ship_at}
use Rattle.ship.specs.Record.{no_engine}
use Rattle.ship.specs.Figures.{uses_of, mains, auxiliary_of, figures}
use Rattle.ship.specs.Accepted.{Measured, Supplied, AcceptedFigures}
use Rattle.ship.specs.declared.accepted.Accepted.{Accepted}
use Rattle.ship.proofs.Right.{numbers_accepted}
use Rattle.ship.proofs.Figured.{rated_entry, figures_accepted}
use Rattle.plant.specs.Plant.{end, at_end, Entered, grams, auxiliary_power, main_N, auxiliary_N, load_of, sums_of}
use Rattle.plant.specs.declared.Sums.{Sums}
use Rattle.plant.proofs.Growth.{bounded, load_within}

pub record AcceptedPlant (a : Accepted) : Type 0 where
  pub most : a.ship.particulars.used ≤ 4
  pub used : length (take a.ship.particulars.used a.ship.engines) ≤ 4
  pub engines : (i : ℕ) → i < length (take a.ship.particulars.used a.ship.engines) → Entered (get_or (take a.ship.particulars.used a.ship.engines) i no_engine)
  pub supplied : Supplied (auxiliary_of a.ship.particulars.supply a.ship.particulars.table)
  pub uses : Measured (uses_of a.ship.auxiliary)

-- The sums at one end, and the emissions as the code works them out.
pub record Summed (a : Accepted) (high : Bool) (t : Sums) : Type 0 where
  pub mcr : t.rated ≤ 480000
  pub small : 10 * t.grams ≤ 6000000000000000
  pub main : 10 * t.grams ≡ main_N (at_end high (figures a.ship))
  pub auxiliary : {x : Auxiliary} {u : Consumption Range} → x ≡ auxiliary_of a.ship.particulars.supply a.ship.particulars.table → u ≡ uses_of a.ship.auxiliary
      → auxiliary_power x t.rated * grams 215 (uses_at (end high) u) ≡ auxiliary_N (at_end high (figures a.ship))

module _ (a : Accepted) where
  pub accepted_figures : AcceptedFigures (figures a.ship)
  accepted_figures = figures_accepted a.ship a.entries.engines a.accepted

  pub plant_accepted : AcceptedPlant a
  unfolding figures
  plant_accepted =
      let r = numbers_accepted a.ship a.accepted in
      let n = a.ship.particulars.used in
      let es = a.ship.engines in
      record {
        most = r.used.most;
        used = omega (arith, length-take n es, r.used.most);
        engines = λ i h.
            let within : i < n = omega (arith, length-take n es, h) in
            rw (get_or-take n es i no_engine within) (rated_entry _ _ (r.entries i within), (r.entries i within).uses.fuelled);
        supplied = accepted_figures.auxiliary;
        uses = accepted_figures.auxiliary_uses;
      }

  pub summed : (high : Bool) (t : Sums) → t ≡ sums_of (engines_at (end high) (mains a.ship.particulars.used a.ship.engines)) → Summed a high t
  unfolding figures ship_at main_N auxiliary_N
  summed high t e =
      let b = bounded high accepted_figures.engines in
      let n = accepted_figures.count.most in
      rw e (record { mcr = omega (arith, b.rated, n); small = omega (arith, b.grams.most, n); main = refl; auxiliary = λ p q. rw (p, q) })

  pub load_fits : load_of (figures a.ship).ship ≤ 6468000000
  load_fits = (load_within (figures a.ship).ship accepted_figures.deadweight accepted_figures.lightweight).most

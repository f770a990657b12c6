-- `factor::factor` meets its contract.
-- Assumes nothing.
use mathlib.Core.Path.{sym, ap, ◌∙◌}
use lib.ListN.{length-map}
use Rattle.std.proofs.Common.{rules}
use Rattle.ship.specs.Figures.{crane_of, cranes_of, figures}
use Rattle.ship.specs.Kinds.{type_of}
use Rattle.ship.specs.Accepted.{AcceptedFigures}
use Rattle.ship.specs.declared.accepted.Accepted.{Accepted}
use Rattle.ship.proofs.Figured.{figures_accepted}
use Rattle.factor.specs.Factor.{factor_by}
use Rattle.factor.proofs.Lifting.{all_geared}
use Rattle.factor.proofs.factor.Goals as goal

given : (a : Accepted) → AcceptedFigures (figures a.ship)
given a = figures_accepted a.ship a.entries.engines a.accepted

pub light_cargo-requires : goal.light_cargo-requires
unfolding figures
light_cargo-requires c =
    let f = given c.args.a.now in
    (f.deadweight, f.cargo (sym c.kind.ensures ∙ ap type_of c.in-Bulk.is))

pub vehicles-requires : goal.vehicles-requires
unfolding figures
vehicles-requires c =
    let f = given c.args.a.now in
    (f.deadweight, f.gross (sym c.kind.ensures ∙ ap type_of c.in-Vehicle.is))

pub cranes_over-requires : goal.cranes_over-requires
unfolding figures cranes_of
cranes_over-requires c =
    let f = given c.args.a.now in
    rw c.cranes.ensures (f.deadweight, rw (length-map _ crane_of) at f.few, all_geared _ f.cranes)

pub returns-in-Bulk : goal.returns-in-Bulk
unfolding figures factor_by
returns-in-Bulk c = rw (← c.kind.ensures, c.in-Bulk.is) c.light_cargo.ensures

pub returns-in-Vehicle : goal.returns-in-Vehicle
unfolding figures factor_by
returns-in-Vehicle c = rw (← c.kind.ensures, c.in-Vehicle.is, ← c.edition.ensures) c.vehicles.ensures

pub returns-in-General : goal.returns-in-General
unfolding figures cranes_of factor_by
returns-in-General c = rw (← c.kind.ensures, c.in-General.is, ← c.cranes.ensures) c.cranes_over.ensures

pub returns-in-Gas : goal.returns-in-Gas
unfolding figures factor_by
returns-in-Gas c = rw (← c.kind.ensures) (search rules)

-- The figures that a record stands for.
-- Assumes nothing.
use Rattle.std.specs.Prelude.{ℕ, ◌-◌, ◌≡◌, List, [], ◌∷◌, map, get_or, length, take, eqb}
use Rattle.exact.specs.Ship as exact
use Rattle.exact.specs.Ranges as ranges
use Rattle.formula.specs.Words.{if}
use Rattle.ship.specs.declared.Deadweight.{Deadweight}
use Rattle.ship.specs.declared.Hull.{Hull}
use Rattle.ship.specs.declared.Crane.{Crane}
use Rattle.ship.specs.declared.Range.{Range}
use Rattle.ship.specs.declared.Consumption.{Consumption}
use Rattle.ship.specs.declared.Engine.{Engine}
use Rattle.ship.specs.declared.Trial.{Trial}
use Rattle.ship.specs.declared.Ship.{Ship}
use Rattle.ship.specs.Accepted.{Within}

-- Types and fuels by number, from 1.
abbrev pub kinds : List exact.Kind
kinds = exact.bulk ∷ exact.gas ∷ exact.tanker ∷ exact.container ∷ exact.refrigerated ∷ exact.combination ∷ exact.vehicle ∷ exact.general ∷ []

abbrev pub kind_of : ℕ → exact.Kind
kind_of n = get_or kinds (n - 1) exact.bulk

abbrev pub Listed : ℕ → Type 0
Listed kind = Within 1 (length kinds) kind

abbrev pub fuel_of : ℕ → exact.Fuel
fuel_of n =
    get_or
    (exact.diesel ∷ exact.light ∷ exact.heavy ∷ exact.propane ∷ exact.butane ∷ exact.lng ∷ exact.methanol ∷ exact.ethanol ∷ [])
    (n - 1)
    exact.diesel

-- Ice classes by number, from 0.
abbrev pub ice_classes : List exact.IceClass
ice_classes = exact.no_ice_class ∷ exact.IA_Super_or_IA ∷ exact.IB_or_IC ∷ []

abbrev pub last_ice : ℕ
last_ice = length ice_classes - 1

abbrev pub ice_of : ℕ → exact.IceClass
ice_of n = get_or ice_classes n exact.no_ice_class

-- Editions by number, from 0.
abbrev pub editions : List exact.Edition
editions = exact.EEXI ∷ exact.EEDI_first ∷ exact.EEDI_amended ∷ []

abbrev pub last_edition : ℕ
last_edition = length editions - 1

abbrev pub edition_of : ℕ → exact.Edition
edition_of n = get_or editions n exact.EEXI

abbrev pub range_of : Range → ranges.Range
range_of r = record { low = r.low; high = r.high }

abbrev pub deadweight_of : Deadweight → exact.Deadweight
deadweight_of d = record { tonnes = d.tonnes }

abbrev pub hull_of : Hull → exact.Hull
hull_of h = record { volume = h.volume; length = h.length; breadth = h.breadth; draught = h.draught }

abbrev pub crane_of : Crane → exact.Crane
crane_of c = record { swl = c.swl; reach = c.reach }

-- The cranes that are used.
unfoldable pub cranes_of : ℕ → List Crane → List exact.Crane
cranes_of used cs = map crane_of (take used cs)

-- Sources 1 and 2 have a consumption of their own, source 3 has none.
unfoldable pub uses_of : Consumption → exact.Consumption ranges.Range
uses_of c = if (eqb c.source 3) exact.neither (exact.recorded (range_of c.sfc) (fuel_of c.fuel))

-- Where there is a consumption, the number of its fuel is one of the eight.
abbrev pub Fuelled : Consumption → Type 0
Fuelled c = (c.source ≡ 3 → ⊥) → Within 1 8 c.fuel

unfoldable pub engine_of : Engine → exact.Engine ranges.Range
engine_of e = record { mcr = range_of e.mcr; limit = e.limit; uses = uses_of e.uses }

-- An entry at one end of its ranges.
abbrev pub entry_at : (ranges.Range → ℕ) → Engine → exact.Engine ℕ
entry_at p e = record { mcr = p (range_of e.mcr); limit = e.limit; uses = ranges.uses_at p (uses_of e.uses) }

-- The engines that are used.
unfoldable pub mains : ℕ → List Engine → List (exact.Engine ranges.Range)
mains used es = map engine_of (take used es)

unfoldable pub auxiliary_of : ℕ → ℕ → exact.Auxiliary
auxiliary_of method power = if (eqb method 2) (exact.table power) exact.rule

-- Speed methods by number, from 1, with a speed or a range of it.
abbrev pub methods : {N : Type 0} → N → Trial → List (exact.Method N)
methods speed t =
    exact.declared speed ∷ exact.trial speed t.power ∷ exact.design_trial speed t.power (deadweight_of t.deadweight) ∷ exact.statistical ∷ []

unfoldable pub method_of : {N : Type 0} → ℕ → N → Trial → exact.Method N
method_of method speed t = get_or (methods speed t) (method - 1) exact.statistical

unfoldable pub figures : Ship → exact.Figures ranges.Range
figures s =
    let p = s.particulars in
    record {
      ship = record {
        kind = kind_of p.kind;
        deadweight = deadweight_of p.deadweight;
        gross = record { gt = p.gross.gt };
        cargo = p.cargo;
        auxiliary = auxiliary_of p.supply p.table;
        ice = ice_of p.ice;
        edition = edition_of p.build.edition;
        lightweight = p.build.lightweight;
        hull = hull_of p.build.hull;
        cranes = cranes_of p.build.cranes p.build.gear;
      };
      engines = mains p.used s.engines;
      auxiliary_uses = uses_of s.auxiliary;
      method = method_of p.method (range_of s.speed) p.trial;
    }

-- What the code's own names stand for, and which number stands for which name.
-- Assumes nothing.
use Rattle.std.specs.Prelude.{ℕ, ◌≡◌, ◌≤◌, ◌↔◌, Result, IsOk, IfOk, IfErr}
use Rattle.exact.specs.Ship as exact
use Rattle.exact.specs.Ranges as ranges
use Rattle.ship.specs.Accepted.{Within}
use Rattle.ship.specs.Figures.{Listed, kind_of, fuel_of, last_ice, ice_of, last_edition, edition_of, range_of, deadweight_of}
use Rattle.ship.specs.declared.kinds.ShipType.{ShipType}
use Rattle.ship.specs.declared.kinds.ShipType.TheVariants.{Bulk, Gas, Tanker, Container, Refrigerated, Combination, Vehicle, General}
use Rattle.ship.specs.declared.kinds.Fuel.{Fuel}
use Rattle.ship.specs.declared.kinds.Fuel.TheVariants.{Diesel, Light, Heavy, Propane, Butane, Lng, Methanol, Ethanol}
use Rattle.ship.specs.declared.kinds.IceClass.{IceClass}
use Rattle.ship.specs.declared.kinds.IceClass.TheVariants.{NoIceClass, SuperOrIA, IBOrIC}
use Rattle.ship.specs.declared.kinds.Edition.{Edition}
use Rattle.ship.specs.declared.kinds.Edition.TheVariants.{Eexi, EediFirst, EediAmended}
use Rattle.ship.specs.declared.kinds.Uses.{Uses}
use Rattle.ship.specs.declared.kinds.Uses.TheVariants.{Recorded, Neither}
use Rattle.ship.specs.declared.kinds.Auxiliary.{Auxiliary}
use Rattle.ship.specs.declared.kinds.Auxiliary.TheVariants.{Rule, Table}
use Rattle.ship.specs.declared.kinds.Method.{Method}
use Rattle.ship.specs.declared.kinds.Method.TheVariants.{Declared, Trial, DesignTrial, Statistical}
use Rattle.ship.specs.declared.kinds.Unlisted.{Unlisted}

abbrev pub type_of : ShipType → exact.Kind
type_of Bulk = exact.bulk
type_of Gas = exact.gas
type_of Tanker = exact.tanker
type_of Container = exact.container
type_of Refrigerated = exact.refrigerated
type_of Combination = exact.combination
type_of Vehicle = exact.vehicle
type_of General = exact.general

abbrev pub burnt : Fuel → exact.Fuel
burnt Diesel = exact.diesel
burnt Light = exact.light
burnt Heavy = exact.heavy
burnt Propane = exact.propane
burnt Butane = exact.butane
burnt Lng = exact.lng
burnt Methanol = exact.methanol
burnt Ethanol = exact.ethanol

abbrev pub class_of : IceClass → exact.IceClass
class_of NoIceClass = exact.no_ice_class
class_of SuperOrIA = exact.IA_Super_or_IA
class_of IBOrIC = exact.IB_or_IC

abbrev pub under : Edition → exact.Edition
under Eexi = exact.EEXI
under EediFirst = exact.EEDI_first
under EediAmended = exact.EEDI_amended

abbrev pub uses_by : Uses → exact.Consumption ranges.Range
uses_by (Recorded sfc fuel) = exact.recorded (range_of sfc) (burnt fuel)
uses_by Neither = exact.neither

abbrev pub auxiliary_by : Auxiliary → exact.Auxiliary
auxiliary_by Rule = exact.rule
auxiliary_by (Table kW) = exact.table kW

-- With a speed, or a range of it.
abbrev pub method_by : {N : Type 0} → Method → N → exact.Method N
method_by Declared v = exact.declared v
method_by (Trial kW) v = exact.trial v kW
method_by (DesignTrial t) v = exact.design_trial v t.power (deadweight_of t.deadweight)
method_by Statistical v = exact.statistical

-- ── By number ───────────────────────────────────────────────────────────────────────────────

-- What the number stands for, and an error with the number exactly where it stands for nothing.
abbrev pub TypeBy : ℕ → Result ShipType Unlisted → Type 0
TypeBy n r = (IsOk r ↔ Listed n) × IfOk r (λ t. type_of t ≡ kind_of n) × IfErr r (λ e. e.0 ≡ n)

abbrev pub FuelBy : ℕ → Result Fuel Unlisted → Type 0
FuelBy n r = (IsOk r ↔ Within 1 8 n) × IfOk r (λ f. burnt f ≡ fuel_of n) × IfErr r (λ e. e.0 ≡ n)

abbrev pub IceBy : ℕ → Result IceClass Unlisted → Type 0
IceBy n r = (IsOk r ↔ (n ≤ last_ice)) × IfOk r (λ i. class_of i ≡ ice_of n) × IfErr r (λ e. e.0 ≡ n)

abbrev pub EditionBy : ℕ → Result Edition Unlisted → Type 0
EditionBy n r = (IsOk r ↔ (n ≤ last_edition)) × IfOk r (λ e. under e ≡ edition_of n) × IfErr r (λ e. e.0 ≡ n)

-- A refusal's number, and the first refusal of a list of tests.
-- Assumes nothing.
use Rattle.std.specs.Prelude.{ℕ, List, [], ◌∷◌, Bool, true, false, Option, None, Some, Result, Ok, Err}
use Rattle.formula.specs.Words.{if}
use Rattle.ship.specs.declared.Refusal.{Refusal}
use Rattle.ship.specs.declared.Refusal.TheVariants.{Length, Check, Layout, ImoNumber, ShipType, Deadweight, GrossTonnage, CargoVolume, Engines}
use Rattle.ship.specs.declared.Refusal.TheVariants.{Consumption, AuxiliaryPower, IceClass, Speed, Ranges, Trial, Unused, Build, Edition, NoBlock}

-- The document's number of each refusal.
abbrev pub number_of : Refusal → ℕ
number_of Length = 1
number_of Check = 2
number_of Layout = 3
number_of ImoNumber = 4
number_of ShipType = 5
number_of Deadweight = 6
number_of GrossTonnage = 7
number_of CargoVolume = 8
number_of Engines = 9
number_of Consumption = 10
number_of AuxiliaryPower = 11
number_of IceClass = 12
number_of Speed = 13
number_of Ranges = 14
number_of Trial = 15
number_of Unused = 16
number_of NoBlock = 17
number_of Build = 18
number_of Edition = 19

-- Tests in order of checking, each with the refusal that is given where it holds.
-- `First ts rest r`: r is the refusal of the first test that holds, or rest where none does; None is no refusal.
pub data First : List (Bool × Refusal) → Option Refusal → Option Refusal → Type 0 where
  no_test : {rest : Option Refusal} → First [] rest rest
  given : {r : Refusal} {rest : Option Refusal} {ts : List (Bool × Refusal)} → First ((true, r) ∷ ts) rest (Some r)
  passed_by : {n : Refusal} {rest r : Option Refusal} {ts : List (Bool × Refusal)} → First ts rest r → First ((false, n) ∷ ts) rest r

-- That one refusal.
unfoldable pub first_of : List (Bool × Refusal) → Option Refusal → Option Refusal
first_of [] rest = rest
first_of (t ∷ ts) rest = if t.0 (Some t.1) (first_of ts rest)

-- What a check answers: that all is well, or the refusal.
abbrev pub verdict : Option Refusal → Result (Unit {0}) Refusal
verdict None = Ok tt
verdict (Some r) = Err r

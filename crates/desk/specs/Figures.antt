-- The figures worked by hand that are proved: one list of them, and what each says.
-- Assumes nothing.
use Rattle.std.specs.Prelude.{ℕ, ◌*◌, ◌≡◌, List, [], ◌∷◌, Ok}
use Rattle.exact.specs.Ship.{Deadweight, GrossTonnage, Kind, container, Crane}
use Rattle.formula.specs.Words.{whole}
use Rattle.exact.specs.Index.{P_ME, by_rule, Capacity, light_cargo, light_vehicles}
use Rattle.ship.specs.declared.Consumption.{Consumption}
use Rattle.ship.specs.declared.Ship.{Ship}
use Rattle.ship.specs.Ends.{just}
use Rattle.ship.specs.Sample.{reported, S, S_in}
use Rattle.factor.specs.Factor.{lifted_of}
use Rattle.desk.specs.Answers.{answer_of}

-- A figure: the desk's two bounds of a ship; P_ME of MCR and limit in hundredths and P_AE of total MCR in thousandths of a kW;
-- the Capacity of a type and deadweight in t; what cranes count for, in 10^-6 t; and f_c 1 of a bulk carrier's deadweight and cargo volume, of a vehicle carrier's
-- deadweight and gross tonnage.
pub data Figure : Type 0 where
  bounds_of : Ship → (lower upper : ℕ) → Figure
  P_ME_of : (mcr limit hundredths : ℕ) → Figure
  P_AE_of : (mcr thousandths : ℕ) → Figure
  Capacity_of : Kind → Deadweight → (tonnes : ℕ) → Figure
  lifted_by : List Crane → (millionths : ℕ) → Figure
  full_cargo : Deadweight → (cargo : ℕ) → Figure
  full_vehicles : Deadweight → GrossTonnage → Figure

-- What it says.
abbrev pub Holds : Figure → Type 0
Holds (bounds_of s lower upper) = answer_of s ≡ Ok (record { lower = lower; upper = upper })
Holds (P_ME_of mcr limit n) = P_ME mcr limit ≡ n
Holds (P_AE_of mcr n) = by_rule mcr ≡ n
Holds (Capacity_of kind dwt n) = Capacity kind dwt ≡ 100 * n
Holds (lifted_by cs n) = lifted_of cs ≡ n
Holds (full_cargo dwt cargo) = light_cargo dwt cargo ≡ whole 1
Holds (full_vehicles dwt gross) = light_vehicles dwt gross ≡ whole 1

abbrev pub All : List Figure → Type 0
All [] = Unit {0}
All (f ∷ fs) = Holds f × All fs

abbrev measured : Consumption
measured = reported (just 1800) 3

-- Source 3: neither a test report nor a maker's figure.
abbrev unmeasured : Consumption
unmeasured = record { sfc = just 0; fuel = 0; source = 3 }

abbrev pub marked_P : List Figure
marked_P =
    bounds_of (S 0 measured (just 1400)) 5170857 5170858
    ∷ bounds_of (S 1 measured (just 1400)) 4924625 4924626
    ∷ bounds_of (S 2 measured (just 1400)) 5170857 5170858
    ∷ bounds_of (S 0 unmeasured (just 1400)) 5437771 5437772
    ∷ bounds_of (S_in 2 0 0 0 measured (just 1400)) 5170857 5170858
    ∷ bounds_of (S_in 2 0 0 10000 measured (just 1400)) 5089426 5089427
    ∷ bounds_of (S_in 2 1 0 0 measured (just 1400)) 5170857 5170858
    ∷ bounds_of (S_in 2 1 1 0 measured (just 1400)) 5170857 5170858
    ∷ bounds_of (S_in 2 2 0 0 measured (just 1400)) 5170857 5170858
    ∷ bounds_of (S_in 2 2 1 0 measured (just 1400)) 4924625 4924626
    ∷ bounds_of (S 0 (reported (record { low = 1750; high = 1800 }) 3) (record { low = 1350; high = 1400 })) 5037400 5362371
    ∷ P_ME_of 8000 7000 581000
    ∷ P_ME_of 8000 7228 599924
    ∷ P_ME_of 8000 7229 600000
    ∷ P_AE_of 9999 499950
    ∷ P_AE_of 10000 500000
    ∷ P_AE_of 10001 500025
    ∷ Capacity_of container (record { tonnes = 80000 }) 56000
    ∷ lifted_by (record { swl = 300; reach = 280 } ∷ record { swl = 400; reach = 300 } ∷ []) 170096000
    ∷ full_cargo (record { tonnes = 55000 }) 100000
    ∷ full_vehicles (record { tonnes = 35000 }) (record { gt = 100000 })
    ∷ []

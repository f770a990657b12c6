-- The whole numbers are the values of the index's formulas.
-- Assumes nothing.
use Prim.Native.Nat.{ℕ, ◌+◌, ◌*◌, ◌<◌}
use mathlib.Core.List.{List, [], ◌∷◌}
use native.Mathlib.Nat.{suc-pred-eq_of_pos}
use native.Mathlib.Omega.{arith}
use Rattle.formula.specs.Formula.{◌//◌, Formula, lit, ◌⊗◌, Enclosed}
use Rattle.exact.specs.Ship.{Deadweight, Kind, bulk, gas, tanker, container, refrigerated, combination, vehicle, general}
use Rattle.exact.specs.Ship.{Consumption, recorded, neither, Engine, Auxiliary, rule, table, Particulars, Figures}
use Rattle.exact.specs.Index.{emission, main_emission, rated, P_AE, Capacity, structural, f_i, load}
use Rattle.formula.proofs.Formulas.{enclosed-≈, enclosed_lit, enclosed_sum, enclosed_product, enclosed_quotient}
use Rattle.plant.specs.Plant.{grams, main_grams, auxiliary_power, main_N, auxiliary_N, allowance_of, load_of}

-- n k-ths is the value of a formula.
abbrev pub Exactly : Formula → ℕ → ℕ → Type 0
Exactly e n k = Enclosed e (n // k) (n // k)

grams_exact : (stand_in : ℕ) (c : Consumption ℕ) → Exactly (emission stand_in c) (grams stand_in c) 10000
unfolding emission grams
grams_exact stand_in (recorded sfc fuel) = enclosed-≈ (enclosed_product (enclosed_lit _) (enclosed_lit _)) (omega arith)
grams_exact stand_in neither = enclosed-≈ (enclosed_product (enclosed_lit _) (enclosed_lit _)) (omega arith)

main_exact : (es : List (Engine ℕ)) → Exactly (main_emission es) (main_grams es) 1000000
unfolding main_emission main_grams
main_exact [] = enclosed-≈ (enclosed_lit _) (omega arith)
main_exact (e ∷ es) = enclosed-≈ (enclosed_sum (enclosed_product (enclosed_lit _) (grams_exact 190 e.uses)) (main_exact es)) (omega arith)

auxiliary_exact : (a : Auxiliary) (mcr : ℕ) → Exactly (P_AE a mcr) (auxiliary_power a mcr) 1000
unfolding P_AE auxiliary_power
auxiliary_exact rule mcr = enclosed_lit _
auxiliary_exact (table kW) mcr = enclosed-≈ (enclosed_lit _) (omega arith)

-- The main engines' and the auxiliaries' emissions.
pub main_N_exact : (f : Figures ℕ) → Exactly (main_emission f.engines) (main_N f) 10000000
unfolding main_N
main_N_exact f = enclosed-≈ (main_exact f.engines) (omega arith)

pub auxiliary_N_exact : (f : Figures ℕ) → Exactly (P_AE f.ship.auxiliary (rated f.engines) ⊗ emission 215 f.auxiliary_uses) (auxiliary_N f) 10000000
unfolding auxiliary_N
auxiliary_N_exact f = enclosed-≈ (enclosed_product (auxiliary_exact f.ship.auxiliary _) (grams_exact 215 f.auxiliary_uses)) (omega arith)

-- ── Capacity with its factors ───────────────────────────────────────────────────────────────

-- Times Capacity f_i is Capacity and 8 % of the lightweight.
module _ (dwt : Deadweight) (lightweight : ℕ) (some : 0 < dwt.tonnes) where
  structural_exact : Exactly (structural dwt lightweight) (100 * dwt.tonnes + 8 * lightweight) (100 * dwt.tonnes)
  unfolding structural
  structural_exact =
      let pos : 0 < 100 * dwt.tonnes = omega arith in
      enclosed-≈ (enclosed_sum (enclosed_lit _) (enclosed_quotient (enclosed_product (enclosed_lit _) (enclosed_lit _)) (enclosed_lit (dwt.tonnes // 1)) some))
      (record { cross = rw (suc-pred-eq_of_pos pos) (omega arith) })

  own : Exactly (structural dwt lightweight ⊗ lit ((100 * dwt.tonnes) // 100)) (100 * dwt.tonnes + 8 * lightweight) 100
  own =
      let pos : 0 < 100 * dwt.tonnes = omega arith in
      enclosed-≈ (enclosed_product structural_exact (enclosed_lit _)) (record { cross = rw (suc-pred-eq_of_pos pos) (omega arith) })

  laden : (kind : Kind) → Exactly (f_i kind dwt lightweight ⊗ lit (Capacity kind dwt // 100)) (Capacity kind dwt + allowance_of kind lightweight) 100
  unfolding f_i Capacity allowance_of
  laden bulk = own
  laden tanker = own
  laden gas = enclosed-≈ (enclosed_product (enclosed_lit _) (enclosed_lit _)) (omega arith)
  laden container = enclosed-≈ (enclosed_product (enclosed_lit _) (enclosed_lit _)) (omega arith)
  laden refrigerated = enclosed-≈ (enclosed_product (enclosed_lit _) (enclosed_lit _)) (omega arith)
  laden combination = enclosed-≈ (enclosed_product (enclosed_lit _) (enclosed_lit _)) (omega arith)
  laden vehicle = enclosed-≈ (enclosed_product (enclosed_lit _) (enclosed_lit _)) (omega arith)
  laden general = enclosed-≈ (enclosed_product (enclosed_lit _) (enclosed_lit _)) (omega arith)

pub load_exact : (s : Particulars) → 0 < s.deadweight.tonnes → Exactly (load s) (load_of s) 10000
unfolding load load_of
load_exact s some = enclosed-≈ (enclosed_product (laden s.deadweight s.lightweight some s.kind) (enclosed_lit _)) (omega arith)

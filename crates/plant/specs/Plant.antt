-- Emissions and factors of a ship as whole numbers: the values of the index's formulas, in the units of the calculation.
-- Assumes nothing.
use Rattle.std.specs.Prelude.{ℕ, ◌+◌, ◌*◌, ◌≤◌, Bool, true, false, not, List, [], ◌∷◌}
use Rattle.exact.specs.Ship.{Kind, bulk, gas, tanker, container, refrigerated, combination, vehicle, general}
use Rattle.exact.specs.Ship.{Consumption, recorded, neither, Engine, Auxiliary, rule, table, Particulars, Figures}
use Rattle.exact.specs.Ranges.{Range, low, high, ship_at}
use Rattle.exact.specs.Index.{C_F, P_ME, sum_P_ME, rated, by_rule, Capacity, f_m}
use Rattle.ship.specs.declared.Engine as entry
use Rattle.ship.specs.declared.Range as record_range
use Rattle.ship.specs.Figures.{Fuelled, engine_of}
use Rattle.ship.specs.Accepted.{Rated}
use Rattle.plant.specs.declared.End.{End}
use Rattle.plant.specs.declared.End.TheVariants.{Low, High}
use Rattle.plant.specs.declared.Sums.{Sums}
use Rattle.plant.specs.declared.Emitted.{Emitted}

-- One end of a range.
abbrev pub end : Bool → Range → ℕ
end true = high
end false = low

-- Whether an end as the code has it is the high one.
abbrev pub top : End → Bool
top Low = false
top High = true

-- A ship at one end of every range, of the speed at the other: `at_end false` is the most favourable, `at_end true` the least.
abbrev pub at_end : Bool → Figures Range → Figures ℕ
at_end top = ship_at (end top) (end (not top))

-- An engine entry as the rules leave it: its figures, and the number of its fuel.
abbrev pub Entered : entry.Engine → Type 0
Entered e = Rated (engine_of e) × Fuelled e.uses

-- C_F × SFC in 1/10,000 g/kWh: thousandths times tenths.
unfoldable pub grams : ℕ → Consumption ℕ → ℕ
grams stand_in (recorded sfc fuel) = C_F fuel * sfc
grams stand_in neither = 3114 * (10 * stand_in)

-- The sum over main engines of P_ME × C_F × SFC, in 10^-6 g/h.
unfoldable pub main_grams : List (Engine ℕ) → ℕ
main_grams [] = 0
main_grams (e ∷ es) = P_ME e.mcr e.limit * grams 190 e.uses + main_grams es

-- P_AE in 1/1000 kW.
unfoldable pub auxiliary_power : Auxiliary → ℕ → ℕ
auxiliary_power rule mcr = by_rule mcr
auxiliary_power (table kW) mcr = 1000 * kW

-- Emissions in 10^-7 g/h, of the main engines and of the auxiliaries.
unfoldable pub main_N : Figures ℕ → ℕ
main_N f = 10 * main_grams f.engines

unfoldable pub auxiliary_N : Figures ℕ → ℕ
auxiliary_N f = auxiliary_power f.ship.auxiliary (rated f.engines) * grams 215 f.auxiliary_uses

-- What f_i adds to Capacity under the common structural rules: 8 % of the lightweight, in 1/100 t.
unfoldable pub allowance_of : Kind → ℕ → ℕ
allowance_of bulk lightweight = 8 * lightweight
allowance_of tanker lightweight = 8 * lightweight
allowance_of gas lightweight = 0
allowance_of container lightweight = 0
allowance_of refrigerated lightweight = 0
allowance_of combination lightweight = 0
allowance_of vehicle lightweight = 0
allowance_of general lightweight = 0

-- Capacity with f_i and f_m, in 10^-4 t.
unfoldable pub load_of : Particulars → ℕ
load_of s = (Capacity s.kind s.deadweight + allowance_of s.kind s.lightweight) * f_m s.edition s.ice

-- ── Of a record ─────────────────────────────────────────────────────────────────────────────

-- The sums over main engines, and with one engine more.
abbrev pub sums_of : List (Engine ℕ) → Sums
sums_of es = record { rated = rated es; grams = main_grams es }

abbrev pub with_engine : Sums → Engine ℕ → Sums
with_engine s e = record { rated = s.rated + e.mcr; grams = s.grams + P_ME e.mcr e.limit * grams 190 e.uses }

-- The sums of at most three engines, so that a fourth one fits.
pub record Roomy (s : Sums) : Type 0 where
  pub rated : s.rated ≤ 360000
  pub grams : s.grams ≤ 346248000000000

-- A figure at the low and at the high end of every range.
abbrev pub ends_of : (Figures ℕ → ℕ) → Figures Range → record_range.Range
ends_of g r = record { low = g (at_end false r); high = g (at_end true r) }

abbrev pub P_ME_of : Figures ℕ → ℕ
P_ME_of f = sum_P_ME f.engines

abbrev pub emitted_of : Figures Range → Emitted
emitted_of r = record { main = ends_of main_N r; auxiliary = ends_of auxiliary_N r }

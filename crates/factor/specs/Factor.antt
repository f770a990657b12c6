-- f_c and f_l as a pair, by a name that other crates keep shut: its laws (proofs/Laws.antt) are all that they use of it. Only desk opens it, to
-- compute the figures worked by hand.
-- Assumes nothing.
use Rattle.std.specs.Prelude.{ℕ, ◌+◌, ◌*◌, ◌/◌, ◌^◌, ◌≤◌, List, [], ◌∷◌, ltb}
use Rattle.formula.specs.Formula.{Formula, ◌//◌, Enclosed}
use Rattle.exact.specs.Ship.{Deadweight, GrossTonnage, Kind, bulk, gas, tanker, container, refrigerated, combination, vehicle, general, Crane, Edition, EEXI, EEDI_first, EEDI_amended, Particulars}
use Rattle.formula.specs.Words.{if}
use Rattle.number.specs.Division.{ceil_of}
use Rattle.power.specs.declared.Bounds.{Bounds}
use Rattle.power.specs.Numbers.{unit}
use Rattle.power.specs.Power.{one, power_of}

-- A bulk carrier's: R to the power -0.15 is 1/R to the power 0.15, and the base of a power is at least 1.
unfoldable pub cargo_factor : Deadweight → ℕ → Bounds
cargo_factor dwt cargo = if (ltb (dwt.tonnes * 100) (55 * cargo)) (power_of cargo dwt.tonnes 15 100) one

-- A vehicle carrier's, inverted likewise.
unfoldable pub vehicles_factor : Deadweight → GrossTonnage → Bounds
vehicles_factor dwt gross = if (ltb (dwt.tonnes * 100) (35 * gross.gt)) (power_of (35 * gross.gt) (100 * dwt.tonnes) 8 10) one

-- In the EEXI alone.
unfoldable pub vehicles_by : Edition → Deadweight → GrossTonnage → Bounds
vehicles_by EEXI dwt gross = vehicles_factor dwt gross
vehicles_by EEDI_first dwt gross = one
vehicles_by EEDI_amended dwt gross = one

-- What cranes count for, in 10^-6 t: 0.0519 × SWL × reach + 32.11 t each.
unfoldable pub lifted_of : List Crane → ℕ
lifted_of [] = 0
lifted_of (c ∷ cs) = 519 * (c.swl * c.reach) + 32110000 + lifted_of cs

-- A general cargo ship's f_l: Capacity and that, over Capacity; 32768 twice is 2^30.
unfoldable pub cranes_factor : Deadweight → List Crane → Bounds
cranes_factor dwt cs =
    let d = dwt.tonnes * 1000000 in
    let n = (d + lifted_of cs) * 32768 ^ 2 in
    record { lo = n / d; hi = ceil_of n d }

-- f_c times f_l, of which a type has at most one. The lower and the upper end, in units of 2^-30. Their last digits are a matter of this definition, and not of the rules.
unfoldable pub factor_by : Kind → Particulars → Bounds
factor_by bulk s = cargo_factor s.deadweight s.cargo
factor_by vehicle s = vehicles_by s.edition s.deadweight s.gross
factor_by gas s = one
factor_by tanker s = one
factor_by container s = one
factor_by refrigerated s = one
factor_by combination s = one
factor_by general s = cranes_factor s.deadweight s.cranes

-- What may be used of it: the two ends enclose the formula, and differ by at most 2^-27 of the lower.
pub record Factored (e : Formula) (r : Bounds) : Type 0 where
  pub encloses : Enclosed e (r.lo // unit) (r.hi // unit)
  pub near : r.hi * 2 ^ 27 ≤ r.lo * (2 ^ 27 + 1)
  pub low : unit ≤ r.lo
  pub order : r.lo ≤ r.hi
  pub high : r.hi ≤ 4156 * unit

-- How the emissions grow: larger consumptions and rated powers give no less, and the figures of an accepted record keep them in bounds.
-- Assumes nothing.
use Prim.Native.Nat.{ℕ, ◌+◌, ◌*◌, ◌≤◌}
use mathlib.Core.Path.{◌≡◌, refl}
use mathlib.Core.Bool.{Bool, true, false}
use mathlib.Core.List.{List}
use native.Mathlib.Omega.{arith}
use native.Mathlib.Nat.{mul-le-mul, mul-le-mul_left, add-le-add, le_refl}
use lib.Dec.{lit≤}
use lib.ListN.{length}
use Rattle.exact.specs.Ship.{Fuel, diesel, light, heavy, propane, butane, lng, methanol, ethanol, Consumption, recorded, neither, Engine, Auxiliary, rule, table}
use Rattle.exact.specs.Ship.{Kind, bulk, gas, tanker, container, refrigerated, combination, vehicle, general, Particulars, Figures}
use Rattle.exact.specs.Index.{C_F, sum_P_ME, rated, Capacity}
use Rattle.exact.specs.Ranges.{Range, Uses, same_fuel, no_source, Engines, no_more, one_more, alike, Inside, most_favourable, least_favourable, uses_at, engines_at}
use Rattle.exact.specs.Ranges.{ship_at, low, high}
use Rattle.exact.proofs.Favour.{P_ME_mono, rated_mono, turn_uses, turn_engines, uses_end, engines_end}
use Rattle.exact.proofs.Rules.{by_rule_min, Capacity_between, f_m_between}
use Rattle.ship.specs.Accepted as figures_accepted
use Rattle.ship.specs.Accepted.{Within, Ends, Measured, Rated, Each, Supplied, AcceptedFigures}
use Rattle.ship.proofs.Figured.{power_within}
use Rattle.plant.specs.Plant.{end, at_end, grams, main_grams, auxiliary_power, main_N, auxiliary_N, allowance_of, load_of}

-- ── The two ends ────────────────────────────────────────────────────────────────────────────

-- The ship with every cost low is the most favourable, the one with every cost high the least.
pub ends : (r : Figures Range) → (at_end false r ≡ most_favourable r) × (at_end true r ≡ least_favourable r)
ends r = (refl, refl)

-- ── More of any figure, no less of the emissions ────────────────────────────────────────────

grams_mono : (stand_in : ℕ) {c c' : Consumption ℕ} → Uses ◌≤◌ c c' → grams stand_in c ≤ grams stand_in c'
unfolding grams
grams_mono stand_in (same_fuel {fuel = fuel} h) = mul-le-mul_left (C_F fuel) h
grams_mono stand_in no_source = le_refl _

main_mono : {es es' : List (Engine ℕ)} → Engines ◌≤◌ es es' → main_grams es ≤ main_grams es'
unfolding main_grams
main_mono no_more = le_refl _
main_mono (one_more {limit = l} h c r) = add-le-add (mul-le-mul (P_ME_mono l h) (grams_mono 190 c)) (main_mono r)

auxiliary_mono : (a : Auxiliary) {m m' : ℕ} → m ≤ m' → auxiliary_power a m ≤ auxiliary_power a m'
unfolding auxiliary_power
auxiliary_mono rule {m} {m'} h = rw (by_rule_min m, by_rule_min m') (omega arith)
auxiliary_mono (table kW) h = le_refl _

main_N_mono : (f f' : Figures ℕ) → Engines ◌≤◌ f.engines f'.engines → main_N f ≤ main_N f'
unfolding main_N
main_N_mono f f' e = mul-le-mul_left 10 (main_mono e)

auxiliary_N_mono : (f f' : Figures ℕ) → f.ship.auxiliary ≡ f'.ship.auxiliary → Engines ◌≤◌ f.engines f'.engines
    → Uses ◌≤◌ f.auxiliary_uses f'.auxiliary_uses → auxiliary_N f ≤ auxiliary_N f'
unfolding auxiliary_N
auxiliary_N_mono f f' same e c = rw same (mul-le-mul (auxiliary_mono f'.ship.auxiliary (rated_mono e)) (grams_mono 215 c))

-- A ship inside the ranges emits no less than the one at the low end, and no more than the one at the high end.
pub record Between (n : Figures ℕ → ℕ) (r : Figures Range) (f : Figures ℕ) : Type 0 where
  pub from : n (at_end false r) ≤ n f
  pub to : n f ≤ n (at_end true r)

pub main_inside : {r : Figures Range} {f : Figures ℕ} → Inside r f → Between main_N r f
unfolding ship_at
main_inside (alike e c v) =
    record { from = main_N_mono _ _ (engines_end low (λ r n h. h.0) e); to = main_N_mono _ _ (turn_engines (engines_end high (λ r n h. h.1) e)) }

pub auxiliary_inside : {r : Figures Range} {f : Figures ℕ} → Inside r f → Between auxiliary_N r f
unfolding ship_at
auxiliary_inside (alike e c v) =
    record {
      from = auxiliary_N_mono _ _ refl (engines_end low (λ r n h. h.0) e) (uses_end low (λ r n h. h.0) c);
      to = auxiliary_N_mono _ _ refl (turn_engines (engines_end high (λ r n h. h.1) e)) (turn_uses (uses_end high (λ r n h. h.1) c));
    }

-- ── Within bounds ───────────────────────────────────────────────────────────────────────────

pub end_within : (top : Bool) {lo hi : ℕ} {r : Range} → Ends lo hi r → Within lo hi (end top r)
end_within true h = record { least = omega (arith, h.least, h.rising); most = h.most }
end_within false h = record { least = h.least; most = omega (arith, h.rising, h.most) }

factor_within : (fuel : Fuel) → Within 1375 3206 (C_F fuel)
unfolding C_F
factor_within diesel = record { least = lit≤ tt; most = lit≤ tt }
factor_within light = record { least = lit≤ tt; most = lit≤ tt }
factor_within heavy = record { least = lit≤ tt; most = lit≤ tt }
factor_within propane = record { least = lit≤ tt; most = lit≤ tt }
factor_within butane = record { least = lit≤ tt; most = lit≤ tt }
factor_within lng = record { least = lit≤ tt; most = lit≤ tt }
factor_within methanol = record { least = lit≤ tt; most = lit≤ tt }
factor_within ethanol = record { least = lit≤ tt; most = lit≤ tt }

product_within : {a b c d m n : ℕ} → Within a b m → Within c d n → Within (a * c) (b * d) (m * n)
product_within h k = record { least = mul-le-mul h.least k.least; most = mul-le-mul h.most k.most }

pub grams_within : (top : Bool) (stand_in : ℕ) → Within 100 215 stand_in → (c : Consumption Range) → Measured c → Within 687500 12824000 (grams stand_in (uses_at (end top) c))
unfolding grams uses_at
grams_within top stand_in s (recorded sfc fuel) m = product_within (factor_within fuel) (end_within top m)
grams_within top stand_in s neither m = record { least = omega (arith, s.least); most = omega (arith, s.most) }

limit_small : {mcr limit : ℕ} → mcr ≤ 120000 → figures_accepted.Limited mcr limit → limit ≤ 120000
limit_small h figures_accepted.no_limiter = lit≤ tt
limit_small h (figures_accepted.limiter w) = omega (arith, w.most)

pub engine_limit : {e : Engine Range} → Rated e → e.limit ≤ 120000
engine_limit h = limit_small (omega (arith, h.mcr.rising, h.mcr.most)) h.limit

-- What n engines come to.
pub record Bounded (n : ℕ) (es : List (Engine ℕ)) : Type 0 where
  pub rated : rated es ≤ n * 120000
  pub grams : Within (n * 5156250000) (n * 115416000000000) (main_grams es)

pub bounded : (top : Bool) {es : List (Engine Range)} → Each Rated es → Bounded (length es) (engines_at (end top) es)
unfolding sum_P_ME rated main_grams engines_at
bounded top figures_accepted.no_more = record { rated = omega arith; grams = record { least = omega arith; most = omega arith } }
bounded top (figures_accepted.one_more {x = e} h hs) =
    let m = end_within top h.mcr in
    let p = power_within (end top e.mcr) e.mcr.low e.limit m.least m.most h.limit in
    let g = product_within p (grams_within top 190 (record { least = lit≤ tt; most = lit≤ tt }) e.uses h.uses) in
    let r = bounded top hs in
    record {
      rated = omega (arith, m.most, r.rated);
      grams = record { least = omega (arith, g.least, r.grams.least); most = omega (arith, g.most, r.grams.most) };
    }

pub auxiliary_most : (a : Auxiliary) {mcr : ℕ} → Supplied a → mcr ≤ 480000 → auxiliary_power a mcr ≤ 50000000
unfolding auxiliary_power
auxiliary_most rule {mcr} s h = rw (by_rule_min mcr) (omega arith)
auxiliary_most (table kW) s h = omega (arith, s.most)

-- The emissions at either end of an accepted record: the main engines' are some, and both together fit a double without loss.
pub record Emitting (f : Figures ℕ) : Type 0 where
  pub some : 51562500000 ≤ main_N f
  pub most : main_N f + auxiliary_N f ≤ 6000000000000000

pub emitting : (top : Bool) {f : Figures Range} → AcceptedFigures f → Emitting (at_end top f)
unfolding main_N auxiliary_N ship_at
emitting top {f} a =
    let b = bounded top a.engines in
    let k = a.count in
    let g = grams_within top 215 (record { least = lit≤ tt; most = lit≤ tt }) f.auxiliary_uses a.auxiliary_uses in
    let m = mul-le-mul (auxiliary_most f.ship.auxiliary {mcr = rated (engines_at (end top) f.engines)} a.auxiliary (omega (arith, b.rated, k.most))) g.most in
    record { some = omega (arith, b.grams.least, k.least); most = omega (arith, b.grams.most, k.most, m) }

allowance_most : (kind : Kind) (lightweight : ℕ) → allowance_of kind lightweight ≤ 8 * lightweight
unfolding allowance_of
allowance_most bulk n = omega arith
allowance_most tanker n = omega arith
allowance_most gas n = omega arith
allowance_most container n = omega arith
allowance_most refrigerated n = omega arith
allowance_most combination n = omega arith
allowance_most vehicle n = omega arith
allowance_most general n = omega arith

pub load_within : (s : Particulars) → Within 100 600000 s.deadweight.tonnes → s.lightweight ≤ 200000 → Within 700000 6468000000 (load_of s)
unfolding load_of
load_within s w h =
    let c = Capacity_between s.kind s.deadweight in
    let f = f_m_between s.edition s.ice in
    let l = allowance_most s.kind s.lightweight in
    let k : Within 7000 61600000 (Capacity s.kind s.deadweight + allowance_of s.kind s.lightweight) =
    record { least = omega (arith, w.least, c.0); most = omega (arith, w.most, c.1) } in
    product_within k (record { least = f.0; most = f.1 })

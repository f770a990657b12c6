-- The laws of f_c and f_l by name: what their users may know of them.
-- Assumes nothing.
use Prim.Native.Nat.{ℕ, ◌*◌, ◌^◌, ◌≤◌, ◌<◌}
use mathlib.Core.Path.{◌≡◌, refl, ap}
use mathlib.Core.Bool.{Bool, true, false}
use native.Mathlib.Nat.{le_trans, mul-le-mul_left, suc-pred-eq_of_pos}
use native.Mathlib.Omega.{arith}
use lib.ListN.{length}
use borrow.Author.Tests.{ltb-true, ltb-false, le-ltb}
use lib.Dec.{ltb, lit≤, lit<}
use Rattle.formula.specs.Formula.{◌//◌, ◌·◌, Side, other, Formula, lit, ◌⊗◌, ◌⊘◌, ◌↑◌, bounds, by_lit, by_quotient}
use Rattle.exact.specs.Ship.{Deadweight, GrossTonnage, Kind, bulk, gas, tanker, container, refrigerated, combination, vehicle, general, IceClass, Edition, EEXI, EEDI_first, EEDI_amended, Particulars, Figures}
use Rattle.formula.specs.Words.{whole, percent, if}
use Rattle.exact.specs.Index.{light_cargo, light_vehicles, vehicles_under, f_c, f_l}
use Rattle.exact.specs.Ranges.{Range}
use Rattle.formula.proofs.Fractions.{◌≈◌, lies_refl, lies-≈}
use Rattle.formula.proofs.Formulas.{enclosed-≈, enclosed_wider, enclosed_lit, enclosed_product}
use Rattle.formula.proofs.Powers.{inverse}
use Rattle.exact.proofs.Rules.{light_cargo_none, light_cargo_some, light_vehicles_none, light_vehicles_some, under}
use Rattle.ship.specs.Accepted.{Within, Each, Geared, AcceptedFigures}
use Rattle.power.specs.declared.Bounds.{Bounds}
use Rattle.power.specs.Power.{Raisable, one, power_of}
use Rattle.factor.specs.Factor.{cargo_factor, vehicles_factor, vehicles_by, factor_by, Factored}
use Rattle.factor.proofs.Inverses.{turned, above_one}
use Rattle.factor.proofs.Lifting.{cranes_factored}

-- What f_c's pair is to its formula: it encloses it, and is exactly 1 where the rule says 1, and nowhere else.
record Light (e : Formula) (r : Bounds) : Type 0 where
  factored : Factored e r
  one_where : e ≡ whole 1 → r ≡ one
  only_where : r ≡ one → e ≡ whole 1

exactly : Light (whole 1) one
exactly =
    record {
      factored = record { encloses = enclosed-≈ (enclosed_lit (1 // 1)) (omega arith); near = lit≤ tt; low = lit≤ tt; order = lit≤ tt; high = lit≤ tt };
      one_where = λ h. refl;
      only_where = λ h. refl;
    }

-- A quotient is no literal, and the power of more than 1 isn't 1.
power_follows : {T : Formula} {a b p q : ℕ} → Raisable a b p q → 0 < p → b < a → Factored (whole 1 ⊘ T ↑ (p // q)) (power_of a b p q)
    → Light (whole 1 ⊘ T ↑ (p // q)) (power_of a b p q)
power_follows given some more w =
    record {
      factored = w;
      one_where = λ h. absurd (let z : ◌≡◌ {A = ℕ} 0 1 = cc in omega arith);
      only_where = λ h. absurd (above_one given some more (omega (arith, ap (λ (r : Bounds). r.hi) h)));
    }

-- A factor that is the power of a/b while n is below its limit, and 1 from there on. Where a/b is at most m, the power is at most c.
module _ {F T : Formula} (n limit a b p q m c : ℕ) (some : 1 ≤ b) (small : a < 2 ^ 32) (most : a ≤ b * m) (moderate : m ≤ 2 ^ 20)
    (exponent : (0 < p) × (p < q) × (q < 2 ^ 24)) (cap : m ^ p * 1 ^ q ≤ c ^ q * 1 ^ p) (few : c ≤ 330) (light : n < limit → b < a)
    (part : (positive : 0 < a) (s : Side) → bounds s T (inverse (a // b) positive))
    (below : n < limit → F ≡ whole 1 ⊘ T ↑ (p // q)) (from : limit ≤ n → F ≡ whole 1) where
  raisable : b < a → Raisable a b p q
  raisable more =
      record {
        some = some;
        from_one = omega arith;
        moderate = le_trans most (mul-le-mul_left b moderate);
        small = small;
        part = exponent.1;
        fine = exponent.2;
      }

  limited : Light F (if (ltb n limit) (power_of a b p q) one)
  limited = go (ltb n limit) refl
    where
      go : (t : Bool) → ltb n limit ≡ t → Light F (if t (power_of a b p q) one)
      go true e =
          let h = ltb-true n limit e in
          let more = light h in
          let positive : 0 < a = omega arith in
          rw (below h)
          (power_follows (raisable more) exponent.0 more (turned (raisable more) m c positive (part positive) (omega arith) cap few))
      go false e = rw (from (ltb-false n limit e)) exactly

-- ── Bulk carriers ───────────────────────────────────────────────────────────────────────────

module _ (dwt : Deadweight) (cargo : ℕ) (d : Within 100 600000 dwt.tonnes) (v : Within 100 1000000 cargo) where
  cargo_part : (p : 0 < cargo) (s : Side) → bounds s (lit (dwt.tonnes // cargo)) (inverse (cargo // dwt.tonnes) p)
  cargo_part p s =
      let n : 0 < dwt.tonnes = omega (arith, d.least) in
      let same : inverse (cargo // dwt.tonnes) p ≈ dwt.tonnes // cargo = record { cross = rw (suc-pred-eq_of_pos n, suc-pred-eq_of_pos p) } in
      by_lit (lies-≈ s same)

  cargo_follows : Light (light_cargo dwt cargo) (cargo_factor dwt cargo)
  unfolding cargo_factor
  cargo_follows =
      let p : 0 < cargo = omega (arith, v.least) in
      let some : 1 ≤ dwt.tonnes = omega (arith, d.least) in
      let most : cargo ≤ dwt.tonnes * 10000 = omega (arith, d.least, v.most) in
      limited (dwt.tonnes * 100) (55 * cargo) cargo dwt.tonnes 15 100 10000 4
      some (omega (arith, v.most)) most (lit≤ tt) (lit< tt, lit< tt, lit< tt) (lit≤ tt) (lit≤ tt) (λ h. omega arith)
      cargo_part (light_cargo_some dwt cargo p) (light_cargo_none dwt cargo p)

-- ── Vehicle carriers ────────────────────────────────────────────────────────────────────────

module _ (dwt : Deadweight) (gross : GrossTonnage) (d : Within 100 600000 dwt.tonnes) (g : Within 100 400000 gross.gt) where
  vehicles_part : (p : 0 < 35 * gross.gt) (s : Side) → bounds s (lit (dwt.tonnes // gross.gt) ⊘ percent 35) (inverse ((35 * gross.gt) // (100 * dwt.tonnes)) p)
  vehicles_part p s =
      let n : 0 < 100 * dwt.tonnes = omega (arith, d.least) in
      let m : 0 < gross.gt = omega arith in
      let same : inverse ((35 * gross.gt) // (100 * dwt.tonnes)) p · 35 // 100 ≈ dwt.tonnes // gross.gt = record { cross = rw (suc-pred-eq_of_pos n, suc-pred-eq_of_pos m) (omega arith) } in
      by_quotient (by_lit (lies_refl s _)) (by_lit (lies_refl (other s) (35 // 100))) (lit< tt) (lies-≈ s same)

  vehicles_follows : Light (light_vehicles dwt gross) (vehicles_factor dwt gross)
  unfolding vehicles_factor
  vehicles_follows =
      let p : 0 < gross.gt = omega (arith, g.least) in
      let some : 1 ≤ 100 * dwt.tonnes = omega (arith, d.least) in
      let most : 35 * gross.gt ≤ 100 * dwt.tonnes * 1400 = omega (arith, d.least, g.most) in
      limited (dwt.tonnes * 100) (35 * gross.gt) (35 * gross.gt) (100 * dwt.tonnes) 8 10 1400 330
      some (omega (arith, g.most)) most (lit≤ tt) (lit< tt, lit< tt, lit< tt) (lit≤ tt) (lit≤ tt) (λ h. omega arith)
      vehicles_part (light_vehicles_some dwt gross p) (light_vehicles_none dwt gross p)

  -- In the EEXI alone.
  vehicles_under_follows : (edition : Edition) → Light (vehicles_under edition dwt gross) (vehicles_by edition dwt gross)
  unfolding vehicles_under vehicles_by
  vehicles_under_follows EEXI = vehicles_follows
  vehicles_under_follows EEDI_first = exactly
  vehicles_under_follows EEDI_amended = exactly

-- From 0.35 on it is 1 in every edition.
pub vehicles_full : (edition : Edition) (dwt : Deadweight) (gross : GrossTonnage) → 35 * gross.gt ≤ 100 * dwt.tonnes → vehicles_by edition dwt gross ≡ one
unfolding vehicles_by vehicles_factor
vehicles_full EEXI dwt gross h = rw (le-ltb (dwt.tonnes * 100) (35 * gross.gt) (omega (arith, h)))
vehicles_full EEDI_first dwt gross h = refl
vehicles_full EEDI_amended dwt gross h = refl

-- ── Every type ──────────────────────────────────────────────────────────────────────────────

-- What the pair is to f_c times f_l: it encloses it, and of types 1 to 7 is exactly 1 where the rule says that f_c is 1, and nowhere else.
pub record Follows (k : Kind) (s : Particulars) (r : Bounds) : Type 0 where
  pub factored : Factored (f_c k s ⊗ f_l k s) r
  pub one_where : (k ≡ general → ⊥) → f_c k s ≡ whole 1 → r ≡ one
  pub only_where : (k ≡ general → ⊥) → r ≡ one → f_c k s ≡ whole 1

-- A factor of 1 behind or in front changes no bound.
module _ {e : Formula} {r : Bounds} (h : Factored e r) where
  behind : Factored (e ⊗ whole 1) r
  behind =
      record {
        encloses = enclosed_wider (enclosed_product h.encloses (enclosed_lit (1 // 1))) (omega arith) (omega arith);
        near = h.near;
        low = h.low;
        order = h.order;
        high = h.high;
      }

  in_front : Factored (whole 1 ⊗ e) r
  in_front =
      record {
        encloses = enclosed_wider (enclosed_product (enclosed_lit (1 // 1)) h.encloses) (omega arith) (omega arith);
        near = h.near;
        low = h.low;
        order = h.order;
        high = h.high;
      }

by_f_c : {k : Kind} {s : Particulars} {r : Bounds} → Light (f_c k s) r → f_l k s ≡ whole 1 → Follows k s r
by_f_c h e = record { factored = rw e (behind h.factored); one_where = λ o. h.one_where; only_where = λ o. h.only_where }

-- What rules 6, 7, 8 and 18 leave.
record Fitted (k : Kind) (s : Particulars) : Type 0 where
  deadweight : Within 100 600000 s.deadweight.tonnes
  gross : k ≡ vehicle → Within 100 400000 s.gross.gt
  cargo : k ≡ bulk → Within 100 1000000 s.cargo
  cranes : Each Geared s.cranes
  few : length s.cranes ≤ 8

by_kind : (k : Kind) (s : Particulars) → Fitted k s → Follows k s (factor_by k s)
unfolding f_c f_l factor_by
by_kind bulk s a = by_f_c (cargo_follows s.deadweight s.cargo a.deadweight (a.cargo refl)) refl
by_kind vehicle s a = by_f_c (vehicles_under_follows s.deadweight s.gross a.deadweight (a.gross refl) s.edition) refl
by_kind gas s a = by_f_c exactly refl
by_kind tanker s a = by_f_c exactly refl
by_kind container s a = by_f_c exactly refl
by_kind refrigerated s a = by_f_c exactly refl
by_kind combination s a = by_f_c exactly refl
by_kind general s a =
    record {
      factored = in_front (cranes_factored s.deadweight s.cranes a.deadweight a.cranes a.few);
      one_where = λ o. absurd (o refl);
      only_where = λ o. absurd (o refl);
    }

pub factor_law : {f : Figures Range} → AcceptedFigures f → Follows f.ship.kind f.ship (factor_by f.ship.kind f.ship)
factor_law {f} a = by_kind f.ship.kind f.ship (record { deadweight = a.deadweight; gross = a.gross; cargo = a.cargo; cranes = a.cranes; few = a.few })

-- Edition and ice class do nothing to it but by a vehicle carrier's.
pub factor_under : (k : Kind) (edition : Edition) (ice : IceClass) (s : Particulars)
    → (k ≡ vehicle → vehicles_by edition s.deadweight s.gross ≡ vehicles_by s.edition s.deadweight s.gross)
    → factor_by k (under edition ice s) ≡ factor_by k s
unfolding factor_by
factor_under vehicle edition ice s h = h refl
factor_under bulk edition ice s h = refl
factor_under gas edition ice s h = refl
factor_under tanker edition ice s h = refl
factor_under container edition ice s h = refl
factor_under refrigerated edition ice s h = refl
factor_under combination edition ice s h = refl
factor_under general edition ice s h = refl

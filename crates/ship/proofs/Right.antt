-- What the numbers of a record with no refusal are.
-- Assumes nothing.
use Prim.Native.Nat.{ℕ, ◌+◌, ◌*◌, ◌≤◌, ◌<◌}
use mathlib.Core.Path.{◌≡◌, refl, sym, ◌∙◌}
use mathlib.Core.Bool.{Bool, true, false, ◌&&◌, ◌||◌, not}
use mathlib.Core.List.{List, [], ◌∷◌, ◌++◌, map}
use native.Mathlib.Omega.{arith}
use borrow.Author.Tests.{ltb-false, eq-eqb, eqb-true, eqb-false}
use lib.Dec.{eqb, ltb}
use lib.ListN.{get_or, length}
use Rattle.std.specs.Prelude.{None}
use Rattle.std.specs.Option.{option_or}
use Rattle.std.proofs.Math.Bool.{or-true}
use Rattle.exact.specs.Index.{Capacity, sum_P_ME}
use Rattle.exact.specs.Ranges.{engines_at, low}
use Rattle.ship.specs.Record.{no_engine, no_crane, record_with}
use Rattle.ship.specs.Refusals.{number_of, first_of}
use Rattle.ship.specs.Figures.{kinds, kind_of, Listed, last_ice, last_edition, Fuelled, deadweight_of, hull_of, crane_of, mains}
use Rattle.ship.specs.Rules.{outside, between, nonzero, any_used, any_below, layout_refused, imo_refused, type_refused, deadweight_refused, gross_refused, volume_refused, engines_refused}
use Rattle.ship.specs.Rules.{uses_refused, consumption_refused, auxiliary_refused, ice_refused, speed_refused, crossed, range_refused, engine_crossed}
use Rattle.ship.specs.Rules.{newer_refused, lightweight_refused, crane_refused, cranes_refused, hull_refused, build_refused, edition_refused}
use Rattle.ship.specs.Rules.{ranges_refused, apart, trial_refused, occupied, unused_refused, hull_tests, plant_tests, trial_tests, early_tests, tests, refusal_of}
use Rattle.ship.specs.Accepted.{Within, Near, Shaped, Geared}
use Rattle.ship.specs.declared.Range.{Range}
use Rattle.ship.specs.declared.Consumption.{Consumption}
use Rattle.ship.specs.declared.Engine.{Engine}
use Rattle.ship.specs.declared.Hull.{Hull}
use Rattle.ship.specs.declared.Crane.{Crane}
use Rattle.ship.specs.declared.Build.{Build}
use Rattle.ship.specs.declared.Trial.{Trial}
use Rattle.ship.specs.declared.Particulars.{Particulars}
use Rattle.ship.specs.declared.Ship.{Ship}
use Rattle.ship.specs.declared.Refusal.{Refusal}
use Rattle.ship.specs.declared.Refusal.TheVariants as refusal
use Rattle.ship.proofs.Order.{passed, own_none, two_stages}
use Rattle.ship.proofs.Tests.{neither, not_with, inside, is_zero, none_below, each_used, each_unused, engines_inside, Sized, engine_inside}

-- ── The order of the rules ──────────────────────────────────────────────────────────────────

-- By the numbers of their refusals, as docs/RULES.md has them.
pub in_order : (zeros : Bool) (s : Ship)
    → map (λ (t : Bool × Refusal). number_of t.1) (tests zeros s) ≡ 3 ∷ 4 ∷ 5 ∷ 6 ∷ 7 ∷ 8 ∷ 9 ∷ 10 ∷ 11 ∷ 12 ∷ 13 ∷ 14 ∷ 15 ∷ 16 ∷ 18 ∷ 19 ∷ []
unfolding hull_tests plant_tests trial_tests
in_order zeros s = refl

-- ── What a record has passed, row by row ────────────────────────────────────────────────────

pub record Early (s : Ship) : Type 0 where
  pub layout : layout_refused s.particulars.layout ≡ false
  pub imo : imo_refused s.particulars.imo ≡ false
  pub kind : type_refused s.particulars.layout s.particulars.kind ≡ false
  pub deadweight : deadweight_refused s.particulars.deadweight ≡ false
  pub gross : gross_refused s.particulars.kind s.particulars.gross ≡ false
  pub cargo : volume_refused s.particulars.kind s.particulars.cargo ≡ false
  pub engines : engines_refused s.particulars.used s.engines ≡ false
  pub consumption : consumption_refused s.auxiliary s.particulars.used s.engines ≡ false
  pub auxiliary : auxiliary_refused s.particulars.supply s.particulars.table ≡ false
  pub ice : ice_refused s.particulars.ice ≡ false
  pub speed : speed_refused s.particulars.method s.particulars.kind s.speed ≡ false
  pub ranges : ranges_refused s ≡ false

pub early : (s : Ship) → first_of (early_tests s) None ≡ None → Early s
unfolding hull_tests plant_tests
early s e =
    let h = passed (early_tests s) None refusal.Edition e in
    record {
      layout = h 0;
      imo = h 1;
      kind = h 2;
      deadweight = h 3;
      gross = h 4;
      cargo = h 5;
      engines = h 6;
      consumption = h 7;
      auxiliary = h 8;
      ice = h 9;
      speed = h 10;
      ranges = h 11;
    }

pub record Passed (z : Bool) (s : Ship) : Type 0 where
  pub early : Early s
  pub trial : trial_refused s.particulars s.engines ≡ false
  pub zeros : z ≡ false
  pub unused : unused_refused s.particulars.used s.engines ≡ false
  pub newer : newer_refused s.particulars.layout s.particulars.build ≡ false
  pub build : build_refused s.particulars.kind s.particulars.build ≡ false
  pub edition : edition_refused s ≡ false

pub all_passed : (zeros : Bool) (s : Ship) → first_of (tests zeros s) None ≡ None → Passed zeros s
unfolding hull_tests plant_tests trial_tests
all_passed zeros s e =
    let h = passed (tests zeros s) None refusal.Edition e in
    let p = s.particulars in
    let n = neither (zeros || unused_refused p.used s.engines) (newer_refused p.layout p.build) (h 13) in
    let k = neither zeros (unused_refused p.used s.engines) n.0 in
    record {
      early = early s (own_none (first_of (early_tests s) None) _ (sym (two_stages (early_tests s) (trial_tests zeros s)) ∙ e));
      trial = h 12;
      zeros = k.0;
      unused = k.1;
      newer = n.1;
      build = h 14;
      edition = h 15;
    }

pub no_refusal : (s : Ship) → refusal_of s ≡ None → Passed false s
unfolding refusal_of
no_refusal = all_passed false

-- An accepted record with another speed method, trial or build is accepted where it passes the rules that look at these.
module _ (s : Ship) (none : refusal_of s ≡ None) (method : ℕ) (run : Trial) (build : Build) where
  abbrev changed : Ship
  changed = record_with method run s.particulars.ice s.particulars.layout build s

  pub changed_accepted : speed_refused method s.particulars.kind s.speed ≡ false → ranges_refused changed ≡ false → trial_refused changed.particulars s.engines ≡ false
      → newer_refused s.particulars.layout build ≡ false → build_refused s.particulars.kind build ≡ false → edition_refused changed ≡ false → refusal_of changed ≡ None
  unfolding refusal_of first_of hull_tests plant_tests trial_tests
  changed_accepted speed ranges trial newer built edition =
      let q = no_refusal s none in
      let h = q.early in
      rw (h.layout, h.imo, h.kind, h.deadweight, h.gross, h.cargo, h.engines, h.consumption, h.auxiliary, h.ice, speed, ranges, trial, q.unused, newer, built, edition)

-- A block whose bytes are refused nothing has a record that is refused nothing.
pub own_refusal : (zeros : Bool) (s : Ship) → first_of (tests zeros s) None ≡ None → refusal_of s ≡ None
unfolding refusal_of
own_refusal zeros s e = rw (← (all_passed zeros s e).zeros) e

-- Tests that come after a record's own count only where it has no refusal.
pub after_own : (s : Ship) (us : List (Bool × Refusal)) → first_of (tests false s ++ us) None ≡ option_or (refusal_of s) (first_of us None)
unfolding refusal_of hull_tests plant_tests trial_tests
after_own s us = two_stages (tests false s) us

-- ── Guards that are met ─────────────────────────────────────────────────────────────────────

-- By cases on whether n is k.
cases : {P : Type 0} (n k : ℕ) → (n ≡ k → P) → ((n ≡ k → ⊥) → P) → P
cases {P} n k f g = go (eqb n k) refl
  where
    go : (t : Bool) → eqb n k ≡ t → P
    go true e = f (eqb-true n k e)
    go false e = g (eqb-false n k e)

first_of_two : (n a b : ℕ) → n ≡ a → eqb n a || eqb n b ≡ true
first_of_two n a b h = grind arith

pub either_of : (n a : ℕ) → a ≤ n → n ≤ a + 1 → eqb n a || eqb n (a + 1) ≡ true
either_of n a h k = grind arith

met : (lo hi n : ℕ) → lo ≤ n → n ≤ hi → between lo hi n ≡ true
met lo hi n h k = grind arith

-- ── Rules 7, 8: a figure of one type only ───────────────────────────────────────────────────

pub record OfType (k lo hi kind n : ℕ) : Type 0 where
  pub least : kind ≡ k → lo ≤ n
  pub most : n ≤ hi

of_type : (k lo hi kind n : ℕ) → eqb kind k && outside lo hi n || not (eqb kind k) && nonzero n ≡ false → OfType k lo hi kind n
of_type k lo hi kind n e = record { least = λ h. grind arith; most = grind arith }

-- ── Rules 10 and 14: a consumption ──────────────────────────────────────────────────────────

pub record Metered (c : Consumption) : Type 0 where
  pub source : Within 1 3 c.source
  pub fuel : c.fuel ≤ 8
  pub fuelled : Fuelled c
  pub most : (c.sfc.low ≤ 4000) × (c.sfc.high ≤ 4000)
  pub least : (c.source ≡ 3 → ⊥) → 500 ≤ c.sfc.low
  pub rising : c.sfc.low ≤ c.sfc.high

metered : (c : Consumption) → uses_refused c ≡ false → crossed c.sfc ≡ false → Metered c
metered c e r =
    record {
      source = record { least = grind arith; most = grind arith };
      fuel = grind arith;
      fuelled = λ h. record { least = grind arith; most = grind arith };
      most = (grind arith, grind arith);
      least = λ h. grind arith;
      rising = grind arith;
    }

-- ── Rule 14: a range, and an engine entry that is used ──────────────────────────────────────

pub record Settles (held : Bool) (r : Range) : Type 0 where
  pub rising : r.low ≤ r.high
  pub single : held ≡ true → r.low ≡ r.high

settles : (held : Bool) (r : Range) → range_refused held r ≡ false → Settles held r
settles held r e = record { rising = grind arith; single = λ h. grind arith }

-- By methods 2 to 4 every range is held to one figure, and of type 8 the speed's.
pub by_method : (method : ℕ) → Within 1 4 method → 2 ≤ method → between 2 4 method ≡ true
by_method method w h = met 2 4 method h w.most

pub by_type : (method kind : ℕ) → kind ≡ 8 → between 2 4 method || eqb kind 8 ≡ true
by_type method kind h = grind arith

pub record Entry (method : ℕ) (e : Engine) : Type 0 where
  pub sized : Sized e
  pub mcr : Settles (between 2 4 method) e.mcr
  pub uses : Metered e.uses

-- ── Rule 13: the speed ──────────────────────────────────────────────────────────────────────

pub record Speeded (m kind : ℕ) (v : Range) : Type 0 where
  pub method : Within 1 4 m
  pub most : (v.low ≤ 6000) × (v.high ≤ 6000)
  pub least : m ≤ 3 → 500 ≤ v.low
  pub draught : m ≡ 3 → not (eqb kind 1) && not (eqb kind 3) && not (eqb kind 4) ≡ false

speeded : (method kind : ℕ) (v : Range) → speed_refused method kind v ≡ false → Speeded method kind v
speeded method kind v e =
    let another = not (eqb kind 1) && not (eqb kind 3) && not (eqb kind 4) in
    let bad = outside 500 6000 v.low || outside 500 6000 v.high in
    let some = nonzero v.low || nonzero v.high in
    let l = neither (outside 1 4 method || eqb method 3 && another || between 1 3 method && bad) (eqb method 4 && some) e in
    let k = neither (outside 1 4 method || eqb method 3 && another) (between 1 3 method && bad) l.0 in
    let j = neither (outside 1 4 method) (eqb method 3 && another) k.0 in
    let w = inside 1 4 method j.0 in
    let ends : method ≤ 3 → Within 500 6000 v.low × Within 500 6000 v.high = λ h.
    let a = neither (outside 500 6000 v.low) (outside 500 6000 v.high) (not_with (between 1 3 method) bad k.1 (met 1 3 method w.least h)) in
    (inside 500 6000 v.low a.0, inside 500 6000 v.high a.1) in
    let none : method ≡ 4 → (v.low ≡ 0) × (v.high ≡ 0) = λ h.
    let a = neither (nonzero v.low) (nonzero v.high) (not_with (eqb method 4) some l.1 (eq-eqb method 4 h)) in
    (is_zero v.low a.0, is_zero v.high a.1) in
    record {
      method = w;
      most = cases method 4 (λ h. (omega (arith, (none h).0), omega (arith, (none h).1))) (λ h.
          let m : method ≤ 3 = omega arith in
          ((ends m).0.most, (ends m).1.most));
      least = λ h. (ends h).0.least;
      draught = λ h. not_with (eqb method 3) another j.1 (eq-eqb method 3 h);
    }

-- ── Rule 15: the trial ──────────────────────────────────────────────────────────────────────

near : (w h : ℕ) → apart w h ≡ false → Near (100 * w) h
near w h e = record { first = grind arith; second = grind arith }

-- With P the sum of P_ME and C the Capacity, both in hundredths.
pub record Trialled (m kW tonnes P C : ℕ) : Type 0 where
  pub power : kW ≤ 600000
  pub load : tonnes ≤ C
  pub tried : 2 ≤ m → m ≤ 3 → Within 1 600000 kW × Near (100 * kW) P
  pub loaded : m ≡ 3 → Near (100 * tonnes) C

trialled : (p : Particulars) (es : List Engine) → Within 1 4 p.method → trial_refused p es ≡ false
    → Trialled p.method p.trial.power p.trial.deadweight.tonnes (sum_P_ME (engines_at low (mains p.used es))) (Capacity (kind_of p.kind) (deadweight_of p.deadweight))
unfolding trial_refused
trialled p es w e =
    let m = p.method in
    let kW = p.trial.power in
    let t = p.trial.deadweight.tonnes in
    let P = sum_P_ME (engines_at low (mains p.used es)) in
    let C = Capacity (kind_of p.kind) (deadweight_of p.deadweight) in
    let some = nonzero kW || nonzero t in
    let bad = outside 1 600000 kW || apart kW P in
    let off = eqb t 0 || apart t C in
    let l = neither ((eqb m 1 || eqb m 4) && some || (eqb m 2 || eqb m 3) && bad || eqb m 2 && nonzero t) (eqb m 3 && off) e in
    let k = neither ((eqb m 1 || eqb m 4) && some || (eqb m 2 || eqb m 3) && bad) (eqb m 2 && nonzero t) l.0 in
    let j = neither ((eqb m 1 || eqb m 4) && some) ((eqb m 2 || eqb m 3) && bad) k.0 in
    let none : eqb m 1 || eqb m 4 ≡ true → (kW ≡ 0) × (t ≡ 0) = λ h.
    let a = neither (nonzero kW) (nonzero t) (not_with (eqb m 1 || eqb m 4) some j.0 h) in
    (is_zero kW a.0, is_zero t a.1) in
    let tried : 2 ≤ m → m ≤ 3 → Within 1 600000 kW × Near (100 * kW) P = λ g h.
    let a = neither (outside 1 600000 kW) (apart kW P) (not_with (eqb m 2 || eqb m 3) bad j.1 (either_of m 2 g h)) in
    (inside 1 600000 kW a.0, near kW P a.1) in
    let loaded : m ≡ 3 → Near (100 * t) C = λ h. near t C (neither (eqb t 0) (apart t C) (not_with (eqb m 3) off l.1 (eq-eqb m 3 h))).1 in
    let last : eqb m 4 ≡ true → eqb m 1 || eqb m 4 ≡ true = λ h. rw h (or-true (eqb m 1)) in
    record {
      power = cases m 1 (λ h. omega (arith, (none (first_of_two m 1 4 h)).0)) (λ a.
          cases m 4 (λ h. omega (arith, (none (last (eq-eqb m 4 h))).0)) (λ b. (tried (omega arith) (omega arith)).0.most));
      load = cases m 3 (λ h. omega (arith, (loaded h).first)) (λ a.
          cases m 2 (λ h. omega (arith, is_zero t (not_with (eqb m 2) (nonzero t) k.1 (eq-eqb m 2 h)))) (λ b.
          cases m 1 (λ h. omega (arith, (none (first_of_two m 1 4 h)).1)) (λ c. omega (arith, (none (last (eq-eqb m 4 (omega arith)))).1))));
      tried = tried;
      loaded = loaded;
    }

-- ── Rule 16: an entry that is not used ──────────────────────────────────────────────────────

idle : (e : Engine) → occupied e ≡ false → e ≡ no_engine
idle e h =
    let low : e.mcr.low ≡ 0 = grind arith in
    let high : e.mcr.high ≡ 0 = grind arith in
    let limit : e.limit ≡ 0 = grind arith in
    let sfc_low : e.uses.sfc.low ≡ 0 = grind arith in
    let sfc_high : e.uses.sfc.high ≡ 0 = grind arith in
    let fuel : e.uses.fuel ≡ 0 = grind arith in
    let source : e.uses.source ≡ 0 = grind arith in
    λ i. record {
      mcr = record { low = low i; high = high i };
      limit = limit i;
      uses = record { sfc = record { low = sfc_low i; high = sfc_high i }; fuel = fuel i; source = source i };
    }

-- ── Rule 18: what layout 2 adds ─────────────────────────────────────────────────────────────

-- Nothing of a hull is larger than a ship's.
pub record Small (h : Hull) : Type 0 where
  pub volume : h.volume ≤ 1000000
  pub length : h.length ≤ 50000
  pub breadth : h.breadth ≤ 10000
  pub draught : h.draught ≤ 4000

pub record Built (kind : ℕ) (b : Build) : Type 0 where
  pub lightweight : b.lightweight ≤ 200000
  pub cranes : b.cranes ≤ 8
  pub used : (i : ℕ) → i < b.cranes → Geared (crane_of (get_or b.gear i no_crane))
  pub others : (i : ℕ) → i < 8 → b.cranes ≤ i → get_or b.gear i no_crane ≡ no_crane
  pub small : Small b.hull
  pub hull : kind ≡ 8 → Shaped (hull_of b.hull)

light : (kind n : ℕ) → lightweight_refused kind n ≡ false → n ≤ 200000
light kind n e = grind arith

geared : (used i : ℕ) (c : Crane) → crane_refused used i c ≡ false → i < used → Geared (crane_of c)
geared used i c e h =
    record { swl = record { least = grind arith; most = grind arith }; reach = record { least = grind arith; most = grind arith } }

lowered : (used i : ℕ) (c : Crane) → crane_refused used i c ≡ false → used ≤ i → c ≡ no_crane
lowered used i c e h =
    let swl : c.swl ≡ 0 = grind arith in
    let reach : c.reach ≡ 0 = grind arith in
    λ i. record { swl = swl i; reach = reach i }

module _ (kind : ℕ) (h : Hull) (e : hull_refused kind h ≡ false) where
  own_shape : kind ≡ 8 → Shaped (hull_of h)
  own_shape g =
      record {
        volume = record { least = grind arith; most = grind arith };
        length = record { least = grind arith; most = grind arith };
        breadth = record { least = grind arith; most = grind arith };
        draught = record { least = grind arith; most = grind arith };
        inside = grind arith;
      }

  small : Small h
  small = record { volume = grind arith; length = grind arith; breadth = grind arith; draught = grind arith }

built_so : (kind : ℕ) (b : Build) → build_refused kind b ≡ false → Built kind b
unfolding build_refused
built_so kind b e =
    let row : ℕ → Bool = λ i. crane_refused b.cranes i (get_or b.gear i no_crane) in
    let k = neither (lightweight_refused kind b.lightweight || cranes_refused kind b.cranes b.gear) (hull_refused kind b.hull) e in
    let j = neither (lightweight_refused kind b.lightweight) (cranes_refused kind b.cranes b.gear) k.0 in
    let c = neither (ltb 8 b.cranes || not (eqb kind 8) && nonzero b.cranes) (any_below row 8) j.1 in
    let n = neither (ltb 8 b.cranes) _ c.0 in
    let few = ltb-false 8 b.cranes n.0 in
    record {
      lightweight = light kind b.lightweight j.0;
      cranes = few;
      used = λ i h. geared b.cranes i _ (none_below row 8 c.1 i (omega arith)) h;
      others = λ i g h. lowered b.cranes i _ (none_below row 8 c.1 i g) h;
      small = small kind b.hull k.1;
      hull = own_shape kind b.hull k.1;
    }

-- ── All of them ─────────────────────────────────────────────────────────────────────────────

pub record AcceptedNumbers (s : Ship) : Type 0 where
  pub layout : Within 1 2 s.particulars.layout
  pub imo : Within 1000000 9999999 s.particulars.imo
  pub kind : Listed s.particulars.kind
  pub deadweight : Within 100 600000 s.particulars.deadweight.tonnes
  pub gross : OfType 7 100 400000 s.particulars.kind s.particulars.gross.gt
  pub cargo : OfType 1 100 1000000 s.particulars.kind s.particulars.cargo
  pub used : Within 1 4 s.particulars.used
  pub entries : (i : ℕ) → i < s.particulars.used → Entry s.particulars.method (get_or s.engines i no_engine)
  pub auxiliary_uses : Metered s.auxiliary
  pub auxiliary : Within 1 2 s.particulars.supply
  pub table : OfType 2 1 50000 s.particulars.supply s.particulars.table
  pub ice : s.particulars.ice ≤ last_ice
  pub speed : Speeded s.particulars.method s.particulars.kind s.speed
  pub ends : Settles (between 2 4 s.particulars.method || eqb s.particulars.kind 8) s.speed
  pub trial : Trialled s.particulars.method s.particulars.trial.power s.particulars.trial.deadweight.tonnes
      (sum_P_ME (engines_at low (mains s.particulars.used s.engines))) (Capacity (kind_of s.particulars.kind) (deadweight_of s.particulars.deadweight))
  pub others : (i : ℕ) → i < 4 → s.particulars.used ≤ i → get_or s.engines i no_engine ≡ no_engine
  pub build : Built s.particulars.kind s.particulars.build
  pub edition : s.particulars.build.edition ≤ last_edition

-- Rule 11 in the shape of rules 7 and 8.
supplied : (method power : ℕ) → auxiliary_refused method power ≡ false → Within 1 2 method × OfType 2 1 50000 method power
supplied method power e =
    (record { least = grind arith; most = grind arith }, record { least = λ h. grind arith; most = grind arith })

listed_edition : (s : Ship) → edition_refused s ≡ false → s.particulars.build.edition ≤ last_edition
unfolding edition_refused
listed_edition s e = ltb-false last_edition s.particulars.build.edition (neither (ltb last_edition s.particulars.build.edition) _ e).0

pub numbers_accepted : (s : Ship) → refusal_of s ≡ None → AcceptedNumbers s
numbers_accepted s e =
    let p = s.particulars in
    let es = s.engines in
    let q = no_refusal s e in
    let h = q.early in
    let k = engines_inside p.used es h.engines in
    let u = neither (uses_refused s.auxiliary) (any_used (λ e. uses_refused e.uses) p.used es) h.consumption in
    let held = between 2 4 p.method || eqb p.kind 8 in
    let r = neither (range_refused held s.speed || crossed s.auxiliary.sfc) (any_used (engine_crossed p.method) p.used es) h.ranges in
    let c = neither (range_refused held s.speed) (crossed s.auxiliary.sfc) r.0 in
    let v = speeded p.method p.kind s.speed h.speed in
    let a = supplied p.supply p.table h.auxiliary in
    record {
      layout = inside 1 2 p.layout h.layout;
      imo = inside 1000000 9999999 p.imo (neither (outside 1000000 9999999 p.imo) _ h.imo).0;
      kind = inside 1 (length kinds) p.kind (neither (outside 1 (length kinds) p.kind) _ h.kind).0;
      deadweight = inside 100 600000 p.deadweight.tonnes h.deadweight;
      gross = of_type 7 100 400000 p.kind p.gross.gt h.gross;
      cargo = of_type 1 100 1000000 p.kind p.cargo h.cargo;
      used = k.0;
      entries = λ i g.
          let four : i < 4 = omega (arith, k.0) in
          let c = neither (range_refused (between 2 4 p.method) (get_or es i no_engine).mcr) (crossed (get_or es i no_engine).uses.sfc) (each_used (engine_crossed p.method) p.used es r.1 i four g) in
          record {
            sized = engine_inside (get_or es i no_engine) (k.1 i g);
            mcr = settles (between 2 4 p.method) (get_or es i no_engine).mcr c.0;
            uses = metered (get_or es i no_engine).uses (each_used (λ e. uses_refused e.uses) p.used es u.1 i four g) c.1;
          };
      auxiliary_uses = metered s.auxiliary u.0 c.1;
      auxiliary = a.0;
      table = a.1;
      ice = ltb-false last_ice p.ice h.ice;
      speed = v;
      ends = settles held s.speed c.0;
      trial = trialled p es v.method q.trial;
      others = λ i f g. idle (get_or es i no_engine) (each_unused occupied p.used es q.unused i f g);
      build = built_so p.kind p.build q.build;
      edition = listed_edition s q.edition;
    }

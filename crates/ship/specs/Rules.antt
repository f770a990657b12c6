-- The refusals of a record, 3 to 16, 18 and 19: each definition says when its refusal is given, and one list has them in order of checking.
-- Assumes nothing.
use Rattle.std.specs.Prelude.{ℕ, zero, suc, ◌+◌, ◌*◌, ◌/◌, ◌%◌, List, [], ◌∷◌, ◌++◌, Bool, false, ◌&&◌, ◌||◌, not, get_or, length, eqb, ltb, leb, Option, None}
use Rattle.exact.specs.Index.{Capacity, sum_P_ME}
use Rattle.exact.specs.Ranges.{engines_at, low}
use Rattle.ship.specs.Record.{no_engine, no_crane}
use Rattle.ship.specs.Refusals.{first_of}
use Rattle.ship.specs.Figures.{kinds, kind_of, last_ice, last_edition, deadweight_of, mains}
use Rattle.ship.specs.declared.Deadweight.{Deadweight}
use Rattle.ship.specs.declared.GrossTonnage.{GrossTonnage}
use Rattle.ship.specs.declared.Range.{Range}
use Rattle.ship.specs.declared.Consumption.{Consumption}
use Rattle.ship.specs.declared.Engine.{Engine}
use Rattle.ship.specs.declared.Hull.{Hull}
use Rattle.ship.specs.declared.Crane.{Crane}
use Rattle.ship.specs.declared.Build.{Build}
use Rattle.ship.specs.declared.Particulars.{Particulars}
use Rattle.ship.specs.declared.Ship.{Ship}
use Rattle.ship.specs.declared.Refusal.{Refusal}
use Rattle.ship.specs.declared.Refusal.TheVariants as refusal

-- ── Words ───────────────────────────────────────────────────────────────────────────────────

-- Not lo–hi.
abbrev pub outside : ℕ → ℕ → ℕ → Bool
outside lo hi n = ltb n lo || ltb hi n

abbrev pub between : ℕ → ℕ → ℕ → Bool
between lo hi n = leb lo n && leb n hi

abbrev pub nonzero : ℕ → Bool
nonzero n = not (eqb n 0)

-- Of the four entries, one of the first n, which are used, has t; or one of the others.
abbrev pub any_used : (Engine → Bool) → ℕ → List Engine → Bool
any_used t n es =
    ltb 0 n && t (get_or es 0 no_engine)
    || ltb 1 n && t (get_or es 1 no_engine)
    || ltb 2 n && t (get_or es 2 no_engine)
    || ltb 3 n && t (get_or es 3 no_engine)

abbrev pub any_unused : (Engine → Bool) → ℕ → List Engine → Bool
any_unused t n es =
    leb n 0 && t (get_or es 0 no_engine)
    || leb n 1 && t (get_or es 1 no_engine)
    || leb n 2 && t (get_or es 2 no_engine)
    || leb n 3 && t (get_or es 3 no_engine)

-- One of the entries 0 to n - 1 has t.
abbrev pub any_below : (ℕ → Bool) → ℕ → Bool
any_below t zero = false
any_below t (suc n) = any_below t n || t n

-- ── Given exactly when ──────────────────────────────────────────────────────────────────────

-- 3: layout not 1 or 2.
abbrev pub layout_refused : ℕ → Bool
layout_refused layout = outside 1 2 layout

-- The first six of seven digits weighted 7, 6, 5, 4, 3, 2 and summed.
abbrev pub weighted : ℕ → ℕ
weighted n =
    7 * (n / 1000000) + 6 * (n / 100000 % 10) + 5 * (n / 10000 % 10) + 4 * (n / 1000 % 10) + 3 * (n / 100 % 10) + 2 * (n / 10 % 10)

-- 4: IMO number not seven digits from 1,000,000, or the last digit isn't the last digit of the first six weighted and summed.
abbrev pub imo_refused : ℕ → Bool
imo_refused n = outside 1000000 9999999 n || not (eqb (weighted n % 10) (n % 10))

-- 5: type not 1–8, or 8 in another layout than 2.
abbrev pub type_refused : ℕ → ℕ → Bool
type_refused layout kind = outside 1 (length kinds) kind || ltb 7 kind && not (eqb layout 2)

-- 6: deadweight not 100–600,000.
abbrev pub deadweight_refused : Deadweight → Bool
deadweight_refused d = outside 100 600000 d.tonnes

-- 7: gross tonnage: type 7 not 100–400,000; others not 0.
abbrev pub gross_refused : ℕ → GrossTonnage → Bool
gross_refused kind g = eqb kind 7 && outside 100 400000 g.gt || not (eqb kind 7) && nonzero g.gt

-- 8: cargo volume: type 1 not 100–1,000,000; others not 0.
abbrev pub volume_refused : ℕ → ℕ → Bool
volume_refused kind cargo = eqb kind 1 && outside 100 1000000 cargo || not (eqb kind 1) && nonzero cargo

-- 9: engines not 1–4; a used MCR end not 100–120,000; a limit neither 0 nor 100 to the low MCR.
abbrev pub engine_refused : Engine → Bool
engine_refused e =
    outside 100 120000 e.mcr.low || outside 100 120000 e.mcr.high
    || nonzero e.limit && outside 100 e.mcr.low e.limit

abbrev pub engines_refused : ℕ → List Engine → Bool
engines_refused used es = outside 1 4 used || any_used engine_refused used es

-- 10: a used source not 1–3; source 1 or 2 with an SFC end not 500–4,000 or fuel not 1–8; source 3 with SFC or fuel not 0.
abbrev pub uses_refused : Consumption → Bool
uses_refused c =
    outside 1 3 c.source
    || (eqb c.source 1 || eqb c.source 2)
    && (outside 500 4000 c.sfc.low || outside 500 4000 c.sfc.high || outside 1 8 c.fuel)
    || eqb c.source 3 && (nonzero c.sfc.low || nonzero c.sfc.high || nonzero c.fuel)

abbrev pub consumption_refused : Consumption → ℕ → List Engine → Bool
consumption_refused auxiliary used es = uses_refused auxiliary || any_used (λ e. uses_refused e.uses) used es

-- 11: auxiliary method not 1–2; rule with table power not 0; table with power not 1–50,000.
abbrev pub auxiliary_refused : ℕ → ℕ → Bool
auxiliary_refused method power =
    outside 1 2 method || eqb method 1 && nonzero power || eqb method 2 && outside 1 50000 power

-- 12: no ice class of that number.
abbrev pub ice_refused : ℕ → Bool
ice_refused ice = ltb last_ice ice

-- 13: method not 1–4; method 3 with another type; methods 1–3 with a speed end not 500–6,000; method 4 with one not 0.
abbrev pub speed_refused : ℕ → ℕ → Range → Bool
speed_refused method kind speed =
    outside 1 4 method
    || eqb method 3 && (not (eqb kind 1) && not (eqb kind 3) && not (eqb kind 4))
    || between 1 3 method && (outside 500 6000 speed.low || outside 500 6000 speed.high)
    || eqb method 4 && (nonzero speed.low || nonzero speed.high)

-- 14: outside unused engine entries: a low end above its high; methods 2–4 with speed or MCR ends that differ; type 8 with speed
-- ends that differ.
abbrev pub crossed : Range → Bool
crossed r = ltb r.high r.low

abbrev pub range_refused : Bool → Range → Bool
range_refused single r = crossed r || single && not (eqb r.low r.high)

abbrev pub engine_crossed : ℕ → Engine → Bool
engine_crossed method e = range_refused (between 2 4 method) e.mcr || crossed e.uses.sfc

abbrev pub ranges_refused : Ship → Bool
ranges_refused s =
    range_refused (between 2 4 s.particulars.method || eqb s.particulars.kind 8) s.speed || crossed s.auxiliary.sfc
    || any_used (engine_crossed s.particulars.method) s.particulars.used s.engines

-- A whole number and one of hundredths: either is above 5 times the other.
abbrev pub apart : ℕ → ℕ → Bool
apart whole hundredths = ltb (5 * hundredths) (100 * whole) || ltb (5 * (100 * whole)) hundredths

-- 15: methods 1, 4: trial power or deadweight not 0. Methods 2, 3: trial power not 1–600,000, or it or sum P_ME above 5 times
-- the other. Method 2: trial deadweight not 0. Method 3: trial deadweight or Capacity above 5 times the other, or trial
-- deadweight 0. (Of methods 2 and 3 no MCR is a range, by 14.)
unfoldable pub trial_refused : Particulars → List Engine → Bool
trial_refused p es =
    let method = p.method in
    let power = p.trial.power in
    let load = p.trial.deadweight.tonnes in
    (eqb method 1 || eqb method 4) && (nonzero power || nonzero load)
    || (eqb method 2 || eqb method 3) && (outside 1 600000 power || apart power (sum_P_ME (engines_at low (mains p.used es))))
    || eqb method 2 && nonzero load
    || eqb method 3 && (eqb load 0 || apart load (Capacity (kind_of p.kind) (deadweight_of p.deadweight)))

-- 16: an unused engine entry isn't zero; in layout 1, a figure that layout 2 adds isn't.
abbrev pub occupied : Engine → Bool
occupied e =
    nonzero e.mcr.low || nonzero e.mcr.high || nonzero e.limit || nonzero e.uses.sfc.low || nonzero e.uses.sfc.high
    || nonzero e.uses.fuel
    || nonzero e.uses.source

abbrev pub unused_refused : ℕ → List Engine → Bool
unused_refused used es = any_unused occupied used es

abbrev pub lifting : Crane → Bool
lifting c = nonzero c.swl || nonzero c.reach

abbrev pub shaped : Hull → Bool
shaped h = nonzero h.volume || nonzero h.length || nonzero h.breadth || nonzero h.draught

unfoldable pub built : Build → Bool
built b =
    nonzero b.edition || nonzero b.lightweight || shaped b.hull || nonzero b.cranes || any_below (λ i. lifting (get_or b.gear i no_crane)) 8

abbrev pub newer_refused : ℕ → Build → Bool
newer_refused layout b = eqb layout 1 && built b

-- 18: lightweight neither 0 nor, for types 1 and 3, 100–200,000.
abbrev pub lightweight_refused : ℕ → ℕ → Bool
lightweight_refused kind n = nonzero n && (not (eqb kind 1) && not (eqb kind 3) || outside 100 200000 n)

-- 18: a used load or reach not 1–10,000, an unused one not 0; cranes above 8, or any with another type than 8.
abbrev pub crane_refused : ℕ → ℕ → Crane → Bool
crane_refused used i c = ltb i used && (outside 1 10000 c.swl || outside 1 10000 c.reach) || leb used i && lifting c

abbrev pub cranes_refused : ℕ → ℕ → List Crane → Bool
cranes_refused kind used cs =
    ltb 8 used || not (eqb kind 8) && nonzero used || any_below (λ i. crane_refused used i (get_or cs i no_crane)) 8

-- 18: type 8: a length not 10–500 m, a breadth not 2–100, a draught not 0.5–40, or a volume not 100–1,000,000 or above their
-- product; others: any of these four not 0.
abbrev pub size_refused : Hull → Bool
size_refused h =
    outside 1000 50000 h.length || outside 200 10000 h.breadth || outside 50 4000 h.draught || outside 100 1000000 h.volume

abbrev pub hull_refused : ℕ → Hull → Bool
hull_refused kind h =
    eqb kind 8 && (size_refused h || ltb (h.length * h.breadth * h.draught) (h.volume * 1000000)) || not (eqb kind 8) && shaped h

unfoldable pub build_refused : ℕ → Build → Bool
build_refused kind b = lightweight_refused kind b.lightweight || cranes_refused kind b.cranes b.gear || hull_refused kind b.hull

-- 19: no edition of that number; an EEDI with a limiter or source 3 of a used engine, with source 3 of the auxiliaries, or with speed
-- methods 2–4.
abbrev pub not_new : Engine → Bool
not_new e = nonzero e.limit || eqb e.uses.source 3

unfoldable pub edition_refused : Ship → Bool
edition_refused s =
    let edition = s.particulars.build.edition in
    ltb last_edition edition
    || nonzero edition
    && (any_used not_new s.particulars.used s.engines || eqb s.auxiliary.source 3 || between 2 4 s.particulars.method)

-- ── In order of checking ────────────────────────────────────────────────────────────────────

-- 3 to 8, of the layout and the hull.
unfoldable pub hull_tests : Ship → List (Bool × Refusal)
hull_tests s =
    let p = s.particulars in
    (layout_refused p.layout, refusal.Layout)
    ∷ (imo_refused p.imo, refusal.ImoNumber)
    ∷ (type_refused p.layout p.kind, refusal.ShipType)
    ∷ (deadweight_refused p.deadweight, refusal.Deadweight)
    ∷ (gross_refused p.kind p.gross, refusal.GrossTonnage)
    ∷ (volume_refused p.kind p.cargo, refusal.CargoVolume)
    ∷ []

-- 9 to 14, of the machinery and the speed.
unfoldable pub plant_tests : Ship → List (Bool × Refusal)
plant_tests s =
    let p = s.particulars in
    let es = s.engines in
    (engines_refused p.used es, refusal.Engines)
    ∷ (consumption_refused s.auxiliary p.used es, refusal.Consumption)
    ∷ (auxiliary_refused p.supply p.table, refusal.AuxiliaryPower)
    ∷ (ice_refused p.ice, refusal.IceClass)
    ∷ (speed_refused p.method p.kind s.speed, refusal.Speed)
    ∷ (ranges_refused s, refusal.Ranges)
    ∷ []

-- 15, 16, 18 and 19. Whether a byte that must be zero isn't is what a block brings to 16; a record has no such byte.
unfoldable pub trial_tests : Bool → Ship → List (Bool × Refusal)
trial_tests zeros s =
    let p = s.particulars in
    (trial_refused p s.engines, refusal.Trial)
    ∷ (zeros || unused_refused p.used s.engines || newer_refused p.layout p.build, refusal.Unused)
    ∷ (build_refused p.kind p.build, refusal.Build)
    ∷ (edition_refused s, refusal.Edition)
    ∷ []

-- Those that calculate nothing, and all of them.
abbrev pub early_tests : Ship → List (Bool × Refusal)
early_tests s = hull_tests s ++ plant_tests s

abbrev pub tests : Bool → Ship → List (Bool × Refusal)
tests zeros s = early_tests s ++ trial_tests zeros s

-- The first refusal of a record, or none.
unfoldable pub refusal_of : Ship → Option Refusal
refusal_of s = first_of (tests false s) None

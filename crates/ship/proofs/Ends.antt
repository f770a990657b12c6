-- The record at one end of every range is accepted where the record with the ranges is, and stands for the ship at that end.
-- Assumes nothing.
use Prim.Native.Nat.{ℕ, zero, suc, ◌+◌, ◌≤◌, ◌<◌}
use mathlib.Core.Path.{◌≡◌, refl, ap, ap₂}
use mathlib.Core.Bool.{Bool, true, false, ◌&&◌, ◌||◌, not}
use mathlib.Core.List.{List, [], ◌∷◌, map}
use native.Mathlib.Omega.{arith}
use lib.Dec.{eqb, ltb, leb}
use lib.ListN.{get_or, length}
use Rattle.std.proofs.Math.ListN.{get_or-map}
use Rattle.std.proofs.lemmas.List.{length-map}
use Rattle.formula.specs.Words.{if}
use Rattle.exact.specs.Index.{P_ME, sum_P_ME}
use Rattle.exact.specs.Ship.{recorded, neither as neither_source}
use Rattle.exact.specs.Ranges as ranges
use Rattle.exact.specs.Ranges.{both_ends, StandsFor, uses_at, engines_at, method_at, ship_at, low, high, most_favourable, least_favourable}
use Rattle.ship.specs.Record.{no_engine}
use Rattle.ship.specs.Refusals.{first_of}
use Rattle.ship.specs.Figures.{last_edition, fuel_of, range_of, uses_of, engine_of, mains, method_of, figures}
use Rattle.ship.specs.Ends.{one_end, uses_end, engine_end, record_end}
use Rattle.ship.specs.Rules.{outside, between, nonzero, any_used, any_unused, engine_refused, uses_refused, speed_refused, crossed, range_refused, engine_crossed}
use Rattle.ship.specs.Rules.{trial_refused, occupied, not_new, edition_refused, hull_tests, plant_tests, trial_tests, refusal_of}
use Rattle.ship.specs.declared.Range.{Range}
use Rattle.ship.specs.declared.Consumption.{Consumption}
use Rattle.ship.specs.declared.Engine.{Engine}
use Rattle.ship.specs.declared.Particulars.{Particulars}
use Rattle.ship.specs.declared.Trial.{Trial}
use Rattle.ship.specs.declared.Ship.{Ship}
use Rattle.std.specs.Prelude.{None}
use Rattle.ship.proofs.Numbered.{method_end, speeds_alike}
use Rattle.ship.proofs.Right.{no_refusal}
use Rattle.ship.proofs.Tests.{neither, inside, each_used}

-- A test that fails.
abbrev pub Fails : Bool → Type 0
Fails b = b ≡ false

pub either : {a b : Bool} → Fails a → Fails b → Fails (a || b)
either p q = rw (p, q)

-- What follows from two tests that fail, part by part.
or : {a a' b b' c c' : Bool} → (Fails a → Fails b → Fails c) → (Fails a' → Fails b' → Fails c') → Fails (a || a') → Fails (b || b') → Fails (c || c')
or {a} {a'} {b} {b'} f g p q =
    let x = neither a a' p in
    let y = neither b b' q in
    either (f x.0 y.0) (g x.1 y.1)

and : (g : Bool) {a b c : Bool} → (g ≡ true → Fails a → Fails b → Fails c) → Fails (g && a) → Fails (g && b) → Fails (g && c)
and true f p q = f refl p q
and false f p q = refl

-- From one test.
pub or' : {a a' c c' : Bool} → (Fails a → Fails c) → (Fails a' → Fails c') → Fails (a || a') → Fails (c || c')
or' {a} {a'} f g p = let k = neither a a' p in either (f k.0) (g k.1)

pub and' : (g : Bool) {a c : Bool} → (Fails a → Fails c) → Fails (g && a) → Fails (g && c)
and' true f p = f p
and' false f p = refl

pub same : (a : Bool) → Fails a → Fails a
same a p = p

-- ── A range ─────────────────────────────────────────────────────────────────────────────────

-- Tests of both ends.
ends : (P : ℕ → Bool) (top : Bool) (r : Range) → Fails (P r.low || P r.high) → Fails (P (one_end top r).low || P (one_end top r).high)
ends P true r p = grind arith
ends P false r p = grind arith

not_crossed : (top : Bool) (r : Range) → Fails (crossed (one_end top r))
not_crossed top r = grind arith

single : (held top : Bool) (r : Range) → Fails (range_refused held (one_end top r))
single held top r = grind arith

-- ── Consumption, MCR, speed ─────────────────────────────────────────────────────────────────

uses : (top : Bool) (c : Consumption) → Fails (uses_refused c) → Fails (uses_refused (uses_end top c))
uses top c =
    or'
    (or' (same (outside 1 3 c.source))
    (and' (eqb c.source 1 || eqb c.source 2) (or' (ends (outside 500 4000) top c.sfc) (same (outside 1 8 c.fuel)))))
    (and' (eqb c.source 3) (or' (ends nonzero top c.sfc) (same (nonzero c.fuel))))

engine : (top : Bool) (m : ℕ) (e : Engine) → Fails (engine_refused e) → Fails (engine_crossed m e) → Fails (engine_refused (engine_end top e))
engine true m e p q = grind arith
engine false m e p q = grind arith

speed : (top : Bool) (method kind : ℕ) (r : Range) → Fails (speed_refused method kind r) → Fails (speed_refused method kind (one_end top r))
speed top method kind r =
    or'
    (or' (same (outside 1 4 method || eqb method 3 && (not (eqb kind 1) && not (eqb kind 3) && not (eqb kind 4))))
    (and' (between 1 3 method) (ends (outside 500 6000) top r)))
    (and' (eqb method 4) (ends nonzero top r))

unused : (top : Bool) (e : Engine) → Fails (occupied e) → Fails (occupied (engine_end top e))
unused true e p = grind arith
unused false e p = grind arith

-- ── The four entries ────────────────────────────────────────────────────────────────────────

entry : (top : Bool) (es : List Engine) (i : ℕ) → get_or (map (engine_end top) es) i no_engine ≡ engine_end top (get_or es i no_engine)
entry true es i = get_or-map (engine_end true) es i no_engine
entry false es i = get_or-map (engine_end false) es i no_engine

module _ (top : Bool) (es : List Engine) (t u v : Engine → Bool) (f : (e : Engine) → Fails (t e) → Fails (u e) → Fails (v (engine_end top e))) where
  one : (g : Bool) (i : ℕ) → Fails (g && t (get_or es i no_engine)) → Fails (g && u (get_or es i no_engine)) → Fails (g && v (get_or (map (engine_end top) es) i no_engine))
  one g i = and g (λ k a b. rw (entry top es i) (f (get_or es i no_engine) a b))

  used : (n : ℕ) → Fails (any_used t n es) → Fails (any_used u n es) → Fails (any_used v n (map (engine_end top) es))
  used n = or (or (or (one (ltb 0 n) 0) (one (ltb 1 n) 1)) (one (ltb 2 n) 2)) (one (ltb 3 n) 3)

  others : (n : ℕ) → Fails (any_unused t n es) → Fails (any_unused u n es) → Fails (any_unused v n (map (engine_end top) es))
  others n = or (or (or (one (leb n 0) 0) (one (leb n 1) 1)) (one (leb n 2) 2)) (one (leb n 3) 3)

-- ── Rule 15: by methods 2 and 3 no MCR is a range ───────────────────────────────────────────

same_power : (top : Bool) (n : ℕ) (es : List Engine) → ((i : ℕ) → i < n → (one_end top (get_or es i no_engine).mcr).low ≡ (get_or es i no_engine).mcr.low)
    → sum_P_ME (engines_at low (mains n (map (engine_end top) es))) ≡ sum_P_ME (engines_at low (mains n es))
unfolding sum_P_ME engines_at mains engine_of
same_power top zero es h = refl
same_power top (suc n) [] h = refl
same_power top (suc n) (e ∷ es) h =
    ap₂ ◌+◌ (ap (λ x. P_ME x e.limit) (h 0 (omega arith))) (same_power top n es (λ i k. h (suc i) (omega arith)))

equal_ends : (top held : Bool) (r : Range) → held ≡ true → Fails (range_refused held r) → (one_end top r).low ≡ r.low
equal_ends false held r g p = refl
equal_ends true held r g p = grind arith

by_trial : (n : ℕ) → eqb n 2 || eqb n 3 ≡ true → between 2 4 n ≡ true
by_trial n h = grind arith

module _ (top : Bool) (p : Particulars) (es : List Engine) (few : p.used ≤ 4) (crossing : Fails (any_used (engine_crossed p.method) p.used es)) where
  kept_power : between 2 4 p.method ≡ true → sum_P_ME (engines_at low (mains p.used (map (engine_end top) es))) ≡ sum_P_ME (engines_at low (mains p.used es))
  kept_power g =
      same_power top p.used es
      (λ i k. equal_ends top (between 2 4 p.method) _ g (neither _ _ (each_used (engine_crossed p.method) p.used es crossing i (omega (arith, few)) k)).0)

  trial : Fails (trial_refused p es) → Fails (trial_refused p (map (engine_end top) es))
  unfolding trial_refused
  trial h = go (eqb p.method 2 || eqb p.method 3) refl
    where
      go : (b : Bool) → eqb p.method 2 || eqb p.method 3 ≡ b → Fails (trial_refused p (map (engine_end top) es))
      go true e = rw (kept_power (by_trial p.method e)) h
      go false e = rw e (rw e at h)

-- ── Rule 19 asks of nothing that is a range ─────────────────────────────────────────────────

edition : (top : Bool) (s : Ship) → Fails (edition_refused s) → Fails (edition_refused (record_end top s))
unfolding edition_refused
edition top s =
    let p = s.particulars in
    or' (same (ltb last_edition p.build.edition))
    (and' (nonzero p.build.edition)
    (or' (or' (λ h. used top s.engines not_new not_new not_new (λ x a b. a) p.used h h) (same (eqb s.auxiliary.source 3))) (same (between 2 4 p.method))))

-- ── The whole record ────────────────────────────────────────────────────────────────────────

pub accepted_end : (top : Bool) (s : Ship) → refusal_of s ≡ None → refusal_of (record_end top s) ≡ None
unfolding refusal_of first_of hull_tests plant_tests trial_tests
accepted_end top s e =
    let p = s.particulars in
    let es = s.engines in
    let q = no_refusal s e in
    let h = q.early in
    let held = between 2 4 p.method || eqb p.kind 8 in
    let r = (neither (range_refused held s.speed || crossed s.auxiliary.sfc) (any_used (engine_crossed p.method) p.used es) h.ranges).1 in
    let n = neither (outside 1 4 p.used) (any_used engine_refused p.used es) h.engines in
    let c = neither (uses_refused s.auxiliary) (any_used (λ x. uses_refused x.uses) p.used es) h.consumption in
    rw (
      h.layout,
      h.imo,
      h.kind,
      h.deadweight,
      h.gross,
      h.cargo,
      either n.0 (used top es engine_refused (engine_crossed p.method) engine_refused (engine top p.method) p.used n.1 r),
      either (uses top s.auxiliary c.0)
          (used top es (λ x. uses_refused x.uses) (λ x. uses_refused x.uses) (λ x. uses_refused x.uses) (λ x a b. uses top x.uses a) p.used c.1 c.1),
      h.auxiliary,
      h.ice,
      speed (not top) p.method p.kind s.speed h.speed,
      either (either (single held (not top) s.speed) (not_crossed top s.auxiliary.sfc))
          (used top es (engine_crossed p.method) (engine_crossed p.method) (engine_crossed p.method)
          (λ x a b. either (single (between 2 4 p.method) top x.mcr) (not_crossed top x.uses.sfc)) p.used r r),
      trial top p es (inside 1 4 p.used n.0).most r q.trial,
      others top es occupied occupied occupied (λ x a b. unused top x a) p.used q.unused q.unused,
      q.newer,
      q.build,
      edition top s q.edition,
    )

-- ── The ship that it stands for ─────────────────────────────────────────────────────────────

-- p is the end of the consumptions and rated powers, q the speed's.
module _ (top : Bool) (p q : ranges.Range → ℕ) (hp : (r : Range) → (one_end top r).low ≡ p (range_of r)) (hq : (r : Range) → (one_end (not top) r).low ≡ q (range_of r)) where
  uses_stand : (c : Consumption) → ranges.Uses both_ends (uses_of (uses_end top c)) (uses_at p (uses_of c))
  unfolding uses_of uses_at
  uses_stand c = go (eqb c.source 3)
    where
      go : (b : Bool) → ranges.Uses both_ends (if b neither_source (recorded (range_of (one_end top c.sfc)) (fuel_of c.fuel)))
          (uses_at p (if b neither_source (recorded (range_of c.sfc) (fuel_of c.fuel))))
      go true = ranges.no_source
      go false = ranges.same_fuel (hp c.sfc, hp c.sfc)

  engines_stand : (n : ℕ) (es : List Engine) → ranges.Engines both_ends (mains n (map (engine_end top) es)) (engines_at p (mains n es))
  unfolding mains engine_of engines_at
  engines_stand zero es = ranges.no_more
  engines_stand (suc n) [] = ranges.no_more
  engines_stand (suc n) (e ∷ es) = ranges.one_more (hp e.mcr, hp e.mcr) (uses_stand e.uses) (engines_stand n es)

  method_stand : (m : ℕ) (v : Range) (t : Trial) → ranges.Speeds both_ends (method_of m (range_of (one_end (not top) v)) t) (method_at q (method_of m (range_of v) t))
  method_stand m v t = rw (method_end q m (range_of v) t) (speeds_alike m _ _ t (hq v, hq v))

  stand : (s : Ship) → StandsFor (figures (record_end top s)) (ship_at p q (figures s))
  unfolding figures ship_at
  stand s = ranges.alike (engines_stand s.particulars.used s.engines) (uses_stand s.auxiliary) (method_stand s.particulars.method s.speed s.particulars.trial)

pub stands_most : (s : Ship) → StandsFor (figures (record_end false s)) (most_favourable (figures s))
stands_most = stand false low high (λ r. refl) (λ r. refl)

pub stands_least : (s : Ship) → StandsFor (figures (record_end true s)) (least_favourable (figures s))
stands_least = stand true high low (λ r. refl) (λ r. refl)

pub entries_end : (top : Bool) (es : List Engine) → length (map (engine_end top) es) ≡ length es
entries_end top es = length-map es (engine_end top)

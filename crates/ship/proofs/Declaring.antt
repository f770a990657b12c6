-- A record by methods 1 to 3 is accepted with its speed declared too. Assumes nothing.
use Prim.Native.Nat.{ℕ, zero, suc}
use mathlib.Core.Path.{◌≡◌, refl}
use mathlib.Core.Bool.{Bool, true, ◌&&◌, ◌||◌}
use native.Mathlib.Omega.{arith}
use lib.Dec.{eqb, ltb}
use lib.ListN.{get_or}
use Rattle.std.specs.Prelude.{None}
use Rattle.exact.specs.Ship as exact
use Rattle.exact.specs.Index.{AsRecorded, without_trial, at_P_ME, at_P_ME_and_Capacity}
use Rattle.exact.specs.Ranges as ranges
use Rattle.exact.specs.Ranges.{method_at}
use Rattle.ship.specs.Record.{no_engine, no_trial, declared_record}
use Rattle.ship.specs.Figures.{method_of}
use Rattle.ship.specs.Rules.{between, speed_refused, crossed, range_refused, engine_crossed, ranges_refused}
use Rattle.ship.specs.Rules.{trial_refused, edition_refused, refusal_of}
use Rattle.ship.specs.Accepted.{Within}
use Rattle.ship.specs.declared.Range.{Range}
use Rattle.ship.specs.declared.Engine.{Engine}
use Rattle.ship.specs.declared.Trial.{Trial}
use Rattle.ship.specs.declared.Ship.{Ship}
use Rattle.ship.proofs.Right.{no_refusal, changed_accepted}
use Rattle.ship.proofs.Ends.{Fails, or', and', same}

-- ── Rule by rule ────────────────────────────────────────────────────────────────────────────

speed : (method kind : ℕ) (r : Range) → between 1 3 method ≡ true → Fails (speed_refused method kind r) → Fails (speed_refused 1 kind r)
speed method kind r sailed p = grind arith

-- A range that had to be one number by a method no longer has to.
looser : (by_method by_type : Bool) (r : Range) → Fails (range_refused (by_method || by_type) r) → Fails (range_refused by_type r)
looser by_method by_type r p = grind arith

engine : (method : ℕ) (e : Engine) → Fails (engine_crossed method e) → Fails (engine_crossed 1 e)
engine method e p = grind arith

crossings : (s : Ship) → Fails (ranges_refused s) → Fails (ranges_refused (declared_record s))
crossings s =
    let p = s.particulars in
    let n = p.used in
    or'
    (or' (looser (between 2 4 p.method) (eqb p.kind 8) s.speed) (same (crossed s.auxiliary.sfc)))
    (or' (or' (or' (entry (ltb 0 n) 0) (entry (ltb 1 n) 1)) (entry (ltb 2 n) 2)) (entry (ltb 3 n) 3))
  where
    entry : (used : Bool) (i : ℕ) → Fails (used && engine_crossed s.particulars.method (get_or s.engines i no_engine)) → Fails (used && engine_crossed 1 (get_or s.engines i no_engine))
    entry used i = and' used (engine s.particulars.method (get_or s.engines i no_engine))

edition : (s : Ship) → Fails (edition_refused s) → Fails (edition_refused (declared_record s))
unfolding edition_refused
edition s p = grind arith

pub declared_accepted : (s : Ship) → between 1 3 s.particulars.method ≡ true → refusal_of s ≡ None → refusal_of (declared_record s) ≡ None
unfolding trial_refused
declared_accepted s sailed none =
    let p = s.particulars in
    let q = no_refusal s none in
    changed_accepted s none 1 no_trial p.build (speed p.method p.kind s.speed sailed q.early.speed) (crossings s q.early.ranges) refl q.newer q.build (edition s q.edition)

-- ── A speed as recorded is not a statistical one ────────────────────────────────────────────

abbrev SailedBy : exact.Method ℕ → Type 0
SailedBy (exact.declared v) = Unit {0}
SailedBy (exact.trial v power) = Unit {0}
SailedBy (exact.design_trial v power tested) = Unit {0}
SailedBy exact.statistical = ⊥

is_sailed : {m : exact.Method ℕ} {kind : exact.Kind} {dwt : exact.Deadweight} {P v : ℕ} → AsRecorded m kind dwt P v → SailedBy m
is_sailed without_trial = tt
is_sailed (at_P_ME e) = tt
is_sailed (at_P_ME_and_Capacity e f g) = tt

pub recorded_sailed : (q : ranges.Range → ℕ) (method : ℕ) (r : ranges.Range) (t : Trial) {kind : exact.Kind} {dwt : exact.Deadweight} {P v : ℕ} → Within 1 4 method
    → AsRecorded (method_at q (method_of method r t)) kind dwt P v → between 1 3 method ≡ true
unfolding method_of method_at
recorded_sailed q zero r t w h = absurd (omega (arith, w.least))
recorded_sailed q (suc zero) r t w h = refl
recorded_sailed q (suc (suc zero)) r t w h = refl
recorded_sailed q (suc (suc (suc zero))) r t w h = refl
recorded_sailed q (suc (suc (suc (suc zero)))) r t w h = absurd (is_sailed h)
recorded_sailed q (suc (suc (suc (suc (suc n))))) r t w h = absurd (omega (arith, w.most))

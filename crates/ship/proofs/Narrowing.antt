-- A record with narrower ranges has narrowed figures, so that demand 3 speaks of every such record.
-- Assumes nothing.
use Prim.Native.Nat.{ℕ, zero, suc, ◌≤◌, ◌<◌}
use mathlib.Core.Path.{◌≡◌, refl}
use mathlib.Core.Bool.{Bool, true, false, not}
use mathlib.Core.List.{List, [], ◌∷◌, map}
use native.Mathlib.Omega.{arith}
use borrow.Author.Tests.{ltb-true, ltb-false}
use lib.Dec.{eqb, ltb}
use lib.ListN.{length, get_or}
use Rattle.formula.specs.Words.{if}
use Rattle.std.specs.Prelude.{None}
use Rattle.exact.specs.Ship.{recorded, neither}
use Rattle.exact.specs.Ranges as ranges
use Rattle.exact.specs.Ranges.{narrows, Narrowed}
use Rattle.ship.specs.Figures.{fuel_of, range_of, uses_of, engine_of, mains, figures}
use Rattle.ship.specs.Record.{no_engine}
use Rattle.ship.specs.Ends.{one_end, uses_end, engine_end, record_end, Narrower, NarrowerUses, NarrowerEngines, no_more, one_more, NarrowerRecord}
use Rattle.ship.specs.Rules.{refusal_of}
use Rattle.ship.specs.declared.Range.{Range}
use Rattle.ship.specs.declared.Consumption.{Consumption}
use Rattle.ship.specs.declared.Engine.{Engine}
use Rattle.ship.specs.declared.Ship.{Ship}
use Rattle.ship.proofs.Numbered.{speeds_alike}
use Rattle.ship.proofs.Right.{numbers_accepted}

range : {r r' : Range} → Narrower r r' → narrows (range_of r) (range_of r')
range h = (h.raised, h.rising, h.lowered)

uses : {c c' : Consumption} → NarrowerUses c c' → ranges.Uses narrows (uses_of c) (uses_of c')
unfolding uses_of
uses {c} {c'} h = rw (h.source, h.fuel) (go (eqb c.source 3))
  where
    go : (b : Bool) → ranges.Uses narrows (if b neither (recorded (range_of c.sfc) (fuel_of c.fuel))) (if b neither (recorded (range_of c'.sfc) (fuel_of c.fuel)))
    go true = ranges.no_source
    go false = ranges.same_fuel (range h.sfc)

engines : (n : ℕ) {es es' : List Engine} → NarrowerEngines es es' → ranges.Engines narrows (mains n es) (mains n es')
unfolding mains engine_of
engines zero h = ranges.no_more
engines (suc n) no_more = ranges.no_more
engines (suc n) (one_more m l c h) = rw l (ranges.one_more (range m) (uses c) (engines n h))

pub narrowed : {s s' : Ship} → NarrowerRecord s s' → Narrowed (figures s) (figures s')
unfolding figures
narrowed {s} h =
    rw h.particulars
    (ranges.alike (engines s.particulars.used h.engines) (uses h.auxiliary) (speeds_alike s.particulars.method _ _ s.particulars.trial (range h.speed)))

-- ── The most and the least favourable record lie within the ranges ──────────────────────────

pub record Rising (e : Engine) : Type 0 where
  pub mcr : e.mcr.low ≤ e.mcr.high
  pub sfc : e.uses.sfc.low ≤ e.uses.sfc.high

range_end : (top : Bool) {r : Range} → r.low ≤ r.high → Narrower r (one_end top r)
range_end true h = omega arith
range_end false h = omega arith

uses_narrower : (top : Bool) {c : Consumption} → c.sfc.low ≤ c.sfc.high → NarrowerUses c (uses_end top c)
uses_narrower top h = record { sfc = range_end top h; fuel = refl; source = refl }

engines_narrower : (top : Bool) (es : List Engine) → ((i : ℕ) → i < length es → Rising (get_or es i no_engine)) → NarrowerEngines es (map (engine_end top) es)
engines_narrower top [] h = no_more
engines_narrower top (e ∷ es) h =
    let r = h 0 (omega arith) in
    one_more (range_end top r.mcr) refl (uses_narrower top r.sfc) (engines_narrower top es (λ i k. h (suc i) (omega arith)))

module _ (s : Ship) (four : length s.engines ≡ 4) (none : refusal_of s ≡ None) where
  entry_rises : (i : ℕ) → i < length s.engines → Rising (get_or s.engines i no_engine)
  entry_rises i h = go (ltb i s.particulars.used) refl
    where
      go : (b : Bool) → ltb i s.particulars.used ≡ b → Rising (get_or s.engines i no_engine)
      go true e = let k = (numbers_accepted s none).entries i (ltb-true i s.particulars.used e) in record { mcr = k.mcr.rising; sfc = k.uses.rising }
      go false e = rw ((numbers_accepted s none).others i (omega arith) (ltb-false i s.particulars.used e)) (omega arith)

  pub ends_narrower : (top : Bool) → NarrowerRecord s (record_end top s)
  ends_narrower top =
      record {
        particulars = refl;
        speed = range_end (not top) (numbers_accepted s none).ends.rising;
        auxiliary = uses_narrower top (numbers_accepted s none).auxiliary_uses.rising;
        engines = engines_narrower top s.engines entry_rises;
      }

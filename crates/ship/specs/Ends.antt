-- The records of a ranged record's most and least favourable ship, and records with narrower ranges.
-- Assumes nothing.
use Rattle.std.specs.Prelude.{ℕ, ◌≤◌, ◌≡◌, Bool, not, List, [], ◌∷◌, map}
use Rattle.formula.specs.Words.{if}
use Rattle.ship.specs.declared.Range.{Range}
use Rattle.ship.specs.declared.Consumption.{Consumption}
use Rattle.ship.specs.declared.Engine.{Engine}
use Rattle.ship.specs.declared.Ship.{Ship}

-- A range of one figure.
abbrev pub just : ℕ → Range
just n = record { low = n; high = n }

abbrev pub one_end : Bool → Range → Range
one_end top r = just (if top r.high r.low)

abbrev pub uses_end : Bool → Consumption → Consumption
uses_end top c = record { sfc = one_end top c.sfc; fuel = c.fuel; source = c.source }

abbrev pub engine_end : Bool → Engine → Engine
engine_end top e = record { mcr = one_end top e.mcr; limit = e.limit; uses = uses_end top e.uses }

-- Every SFC and MCR at the high end where `top`, else at the low one, and the speed at the other: the least or the most favourable.
abbrev pub record_end : Bool → Ship → Ship
record_end top s =
    record {
      particulars = s.particulars;
      speed = one_end (not top) s.speed;
      auxiliary = uses_end top s.auxiliary;
      engines = map (engine_end top) s.engines;
    }

-- ── Narrower ranges ─────────────────────────────────────────────────────────────────────────

-- Low ends raised or high ends lowered, low never passing high, and all else equal.
pub record Narrower (r r' : Range) : Type 0 where
  pub raised : r.low ≤ r'.low
  pub rising : r'.low ≤ r'.high
  pub lowered : r'.high ≤ r.high

pub record NarrowerUses (c c' : Consumption) : Type 0 where
  pub sfc : Narrower c.sfc c'.sfc
  pub fuel : c'.fuel ≡ c.fuel
  pub source : c'.source ≡ c.source

pub data NarrowerEngines : List Engine → List Engine → Type 0 where
  no_more : NarrowerEngines [] []
  one_more : {e e' : Engine} {es es' : List Engine} → Narrower e.mcr e'.mcr → e'.limit ≡ e.limit → NarrowerUses e.uses e'.uses
      → NarrowerEngines es es' → NarrowerEngines (e ∷ es) (e' ∷ es')

pub record NarrowerRecord (s s' : Ship) : Type 0 where
  pub particulars : s'.particulars ≡ s.particulars
  pub speed : Narrower s.speed s'.speed
  pub auxiliary : NarrowerUses s.auxiliary s'.auxiliary
  pub engines : NarrowerEngines s.engines s'.engines

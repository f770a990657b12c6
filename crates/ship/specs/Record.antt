-- Entries that are not used, and what stands where layout 2 adds nothing.
-- Assumes nothing.
use Rattle.std.specs.Prelude.{ℕ, ◌≡◌, [], ◌∷◌, length}
use Rattle.ship.specs.declared.Engine.{Engine}
use Rattle.ship.specs.declared.Crane.{Crane}
use Rattle.ship.specs.declared.Build.{Build}
use Rattle.ship.specs.declared.Trial.{Trial}
use Rattle.ship.specs.declared.Particulars.{Particulars}
use Rattle.ship.specs.declared.Ship.{Ship}

abbrev pub no_engine : Engine
no_engine = record { mcr = record { low = 0; high = 0 }; limit = 0; uses = record { sfc = record { low = 0; high = 0 }; fuel = 0; source = 0 } }

abbrev pub no_crane : Crane
no_crane = record { swl = 0; reach = 0 }

abbrev pub no_build : Build
no_build =
    record {
      lightweight = 0;
      hull = record { volume = 0; length = 0; breadth = 0; draught = 0 };
      cranes = 0;
      gear = no_crane ∷ no_crane ∷ no_crane ∷ no_crane ∷ no_crane ∷ no_crane ∷ no_crane ∷ no_crane ∷ [];
      edition = 0;
    }

-- Every value of the type has four engine entries and eight crane entries, used or not.
pub record Entries (s : Ship) : Type 0 where
  pub engines : length s.engines ≡ 4
  pub gear : length s.particulars.build.gear ≡ 8

-- Particulars with another speed method, trial, ice class, layout and build.
abbrev pub particulars_with : (method : ℕ) → Trial → (ice layout : ℕ) → Build → Particulars → Particulars
particulars_with method run ice layout build p =
    record {
      imo = p.imo;
      kind = p.kind;
      deadweight = p.deadweight;
      gross = p.gross;
      cargo = p.cargo;
      method = method;
      trial = run;
      supply = p.supply;
      table = p.table;
      ice = ice;
      used = p.used;
      layout = layout;
      build = build;
    }

abbrev pub with_build : (ice layout : ℕ) → Build → Particulars → Particulars
with_build ice layout build p = particulars_with p.method p.trial ice layout build p

-- The same record with these.
abbrev pub record_with : (method : ℕ) → Trial → (ice layout : ℕ) → Build → Ship → Ship
record_with method run ice layout build s =
    record {
      particulars = particulars_with method run ice layout build s.particulars;
      speed = s.speed;
      auxiliary = s.auxiliary;
      engines = s.engines;
    }

abbrev pub ship_with : (ice layout : ℕ) → Build → Ship → Ship
ship_with ice layout build s = record_with s.particulars.method s.particulars.trial ice layout build s

-- The same record in another layout, ice class or edition.
abbrev pub in_layout : ℕ → Ship → Ship
in_layout layout s = ship_with s.particulars.ice layout s.particulars.build s

abbrev pub in_class : ℕ → Ship → Ship
in_class ice s = ship_with ice s.particulars.layout s.particulars.build s

abbrev pub in_edition : ℕ → Ship → Ship
in_edition edition s =
    let b = s.particulars.build in
    ship_with
    s.particulars.ice
    s.particulars.layout
    (record { lightweight = b.lightweight; hull = b.hull; cranes = b.cranes; gear = b.gear; edition = edition })
    s

-- The same record with its speed declared, and so without a trial.
abbrev pub no_trial : Trial
no_trial = record { power = 0; deadweight = record { tonnes = 0 } }

abbrev pub declared_record : Ship → Ship
declared_record s = record_with 1 no_trial s.particulars.ice s.particulars.layout s.particulars.build s

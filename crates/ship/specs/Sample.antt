-- Ship S, whose index is worked by hand.
-- Assumes nothing.
use Rattle.std.specs.Prelude.{ℕ, [], ◌∷◌}
use Rattle.ship.specs.Record.{no_engine, no_crane}
use Rattle.ship.specs.Ends.{just}
use Rattle.ship.specs.declared.Range.{Range}
use Rattle.ship.specs.declared.Consumption.{Consumption}
use Rattle.ship.specs.declared.Ship.{Ship}

-- A consumption from a test report.
abbrev pub reported : Range → ℕ → Consumption
reported sfc fuel = record { sfc = sfc; fuel = fuel; source = 1 }

-- With its layout, its edition, its ice class, its lightweight, its main engine's consumption and its speed.
abbrev pub S_in : (layout edition ice lightweight : ℕ) → Consumption → Range → Ship
S_in layout edition ice lightweight uses speed =
    record {
      particulars = record {
        imo = 9074729;
        kind = 1;
        deadweight = record { tonnes = 50000 };
        gross = record { gt = 0 };
        cargo = 60000;
        method = 1;
        trial = record { power = 0; deadweight = record { tonnes = 0 } };
        supply = 1;
        table = 0;
        ice = ice;
        used = 1;
        layout = layout;
        build = record {
          lightweight = lightweight;
          hull = record { volume = 0; length = 0; breadth = 0; draught = 0 };
          cranes = 0;
          gear = no_crane ∷ no_crane ∷ no_crane ∷ no_crane ∷ no_crane ∷ no_crane ∷ no_crane ∷ no_crane ∷ [];
          edition = edition;
        };
      };
      speed = speed;
      auxiliary = reported (just 2000) 1;
      engines = record { mcr = just 8000; limit = 0; uses = uses } ∷ no_engine ∷ no_engine ∷ no_engine ∷ [];
    }

abbrev pub S : ℕ → Consumption → Range → Ship
S ice = S_in 1 0 ice 0

-- Every value of the type `Ship` has four engine entries and eight crane entries.
-- Assumes nothing.
use mathlib.Core.Path.{◌≡◌}
use mathlib.Core.List.{List}
use lib.ListN.{length}
use mir.Val.{Val}
use denote.Shadow.{shadow}
use denote.Struct.Declared.{row}
use Rattle.ship.specs.Record.{Entries}
use Rattle.ship.specs.declared.Ship.{Ship}
use Rattle.ship.specs.contracts.Ship.{the_type}

-- Where a function takes a ship s, its `c.well_formed.0` has this shadow.
pub four : (s : Ship) (vs : List Val) → shadow ((row the_type).own_val s vs) → length s.engines ≡ 4
four s vs g = g.1.1.1.1.1.0.1.0.1

pub eight : (s : Ship) (vs : List Val) → shadow ((row the_type).own_val s vs) → length s.particulars.build.gear ≡ 8
eight s vs g =
    let p = g.1.1.0.1.1 in
    let b = p.1.1.1.1.1.1.1.1.1.1.1.1.0.1.1 in
    b.1.1.1.0.1.0.1

pub all_entries : (s : Ship) (vs : List Val) → shadow ((row the_type).own_val s vs) → Entries s
all_entries s vs g = record { engines = four s vs g; gear = eight s vs g }

-- The programs' names.
-- Assumes nothing.
use Rattle.std.specs.Prelude.{ℕ, List}
use Rattle.streams.specs.Streams.{bytes_of}

-- The one that asks for the index, and the one that asks for the speed.
abbrev pub fleet_name : List ℕ
fleet_name = bytes_of "fleet"

abbrev pub speeds_name : List ℕ
speeds_name = bytes_of "speeds"

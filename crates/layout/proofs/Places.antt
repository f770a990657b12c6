-- The table's widths put each field where the document has it.
-- Assumes nothing.
use Prim.Native.Nat.{ℕ, ◌+◌}
use mathlib.Core.Path.{◌≡◌, refl}
use mathlib.Core.List.{List, [], ◌∷◌}
use native.Mathlib.Nat.{add_assoc}
use Rattle.fields.specs.Numbers.{number_at}
use Rattle.fields.specs.Runs.{numbers_at, total, widths_of}
use Rattle.ship.specs.Record.{no_engine}
use Rattle.build_fields.specs.Fields.{front, cranes, sizes, added, newer}
use Rattle.layout.specs.Layout.{head, entry, entries, fields, widths}

abbrev starts : ℕ → List ℕ → List ℕ
starts at [] = []
starts at (w ∷ ws) = at ∷ starts (at + w) ws

pub places : starts 0 widths
    ≡ 0 ∷ 2 ∷ 3 ∷ 4 ∷ 8 ∷ 12 ∷ 16 ∷ 20 ∷ 24 ∷ 28 ∷ 32 ∷ 36 ∷ 37 ∷ 38 ∷ 39 ∷ 40 ∷ 44 ∷ 46 ∷ 48 ∷ 49
    ∷ 52 ∷ 56 ∷ 60 ∷ 64 ∷ 66 ∷ 68 ∷ 69 ∷ 70
    ∷ 72 ∷ 76 ∷ 80 ∷ 84 ∷ 86 ∷ 88 ∷ 89 ∷ 90
    ∷ 92 ∷ 96 ∷ 100 ∷ 104 ∷ 106 ∷ 108 ∷ 109 ∷ 110
    ∷ 112 ∷ 116 ∷ 120 ∷ 124 ∷ 126 ∷ 128 ∷ 129 ∷ 130
    ∷ 132 ∷ 136 ∷ 140 ∷ 141 ∷ 142
    ∷ 144 ∷ 146 ∷ 148 ∷ 150 ∷ 152 ∷ 154 ∷ 156 ∷ 158 ∷ 160 ∷ 162 ∷ 164 ∷ 166 ∷ 168 ∷ 170 ∷ 172 ∷ 174
    ∷ 176 ∷ 180 ∷ 184 ∷ 188
    ∷ []
unfolding widths fields head entries entry front cranes sizes added newer
places = refl

pub to_508 : total widths ≡ 508
unfolding widths fields head entries entry front cranes sizes added newer
to_508 = refl

-- And an entry's, wherever it stands.
pub entry_places : (b : List ℕ) (at : ℕ) → numbers_at b at (widths_of (entry no_engine))
    ≡ number_at b at 4
    ∷ number_at b (at + 4) 4
    ∷ number_at b (at + 8) 4
    ∷ number_at b (at + 12) 2
    ∷ number_at b (at + 14) 2
    ∷ number_at b (at + 16) 1
    ∷ number_at b (at + 17) 1
    ∷ number_at b (at + 18) 2
    ∷ []
unfolding numbers_at entry
entry_places b at = simp add_assoc

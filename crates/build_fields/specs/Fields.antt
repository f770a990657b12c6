-- What layout 2 adds, bytes 132–507, as a table: each field a width in bytes and a number.
-- Assumes nothing.
use Rattle.std.specs.Prelude.{ℕ, List, [], ◌∷◌, ◌++◌, get_or, drop}
use Rattle.ship.specs.Record.{no_crane}
use Rattle.ship.specs.declared.Hull.{Hull}
use Rattle.ship.specs.declared.Crane.{Crane}
use Rattle.ship.specs.declared.Build.{Build}

-- Bytes 132–143.
unfoldable pub front : Build → List (ℕ × ℕ)
front b =
    (4, b.lightweight)  -- 132–135
    ∷ (4, b.hull.volume)  -- 136–139
    ∷ (1, b.cranes)  -- 140
    ∷ (1, b.edition)  -- 141
    ∷ (2, 0)  -- 142–143 zero
    ∷ []

-- A crane entry of 4 bytes.
abbrev pub crane : Crane → List (ℕ × ℕ)
crane c = (2, c.swl) ∷ (2, c.reach) ∷ []

-- Bytes 144–175, the eight crane entries.
unfoldable pub cranes : List Crane → List (ℕ × ℕ)
cranes cs =
    let at : ℕ → List (ℕ × ℕ) = λ i. crane (get_or cs i no_crane) in
    at 0 ++ (at 1 ++ (at 2 ++ (at 3 ++ (at 4 ++ (at 5 ++ (at 6 ++ at 7))))))

-- Bytes 176–187.
unfoldable pub sizes : Hull → List (ℕ × ℕ)
sizes h =
    (4, h.length)  -- 176–179
    ∷ (4, h.breadth)  -- 180–183
    ∷ (4, h.draught)  -- 184–187
    ∷ []

-- Bytes 188–507: where later requests put their fields.
abbrev pub rest : List (ℕ × ℕ)
rest = (320, 0) ∷ []  -- 188–507 zero

-- Bytes 132–187; in layout 1 all of it is 0 (rule 16).
unfoldable pub added : Build → List (ℕ × ℕ)
added b = front b ++ (cranes b.gear ++ sizes b.hull)

-- Bytes 132–507.
unfoldable pub newer : Build → List (ℕ × ℕ)
newer b = added b ++ rest

-- ── The numbers of the table: each goes where the record has it ─────────────────────────────

abbrev pub crane_from : List ℕ → Crane
crane_from ns = record { swl = get_or ns 0 0; reach = get_or ns 1 0 }

abbrev pub gear_from : List ℕ → List Crane
gear_from ns =
    let at : ℕ → Crane = λ i. crane_from (drop i ns) in
    at 0 ∷ at 2 ∷ at 4 ∷ at 6 ∷ at 8 ∷ at 10 ∷ at 12 ∷ at 14 ∷ []

unfoldable pub build_from : List ℕ → Build
build_from ns =
    record {
      lightweight = get_or ns 0 0;
      hull = record { volume = get_or ns 1 0; length = get_or ns 21 0; breadth = get_or ns 22 0; draught = get_or ns 23 0 };
      cranes = get_or ns 2 0;
      gear = gear_from (drop 5 ns);
      edition = get_or ns 3 0;
    }

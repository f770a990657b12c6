-- The block of 512 bytes. One table, `fields`, has every field with its width, in order of place; a block is written and read by it.
-- Assumes nothing.
use Rattle.std.specs.Prelude.{ℕ, List, [], ◌∷◌, ◌++◌, get_or, drop}
use Rattle.fields.specs.Runs.{numbers_at, widths_of, packed}
use Rattle.fields.specs.Checks.{sums}
use Rattle.ship.specs.Record.{no_engine}
use Rattle.build_fields.specs.Fields.{newer, build_from}
use Rattle.ship.specs.declared.Range.{Range}
use Rattle.ship.specs.declared.Consumption.{Consumption}
use Rattle.ship.specs.declared.Engine.{Engine}
use Rattle.ship.specs.declared.Particulars.{Particulars}
use Rattle.ship.specs.declared.Ship.{Ship}

-- ── The table: each field a width in bytes and a number ─────────────────────────────────────

-- Bytes 0–51.
unfoldable pub head : Ship → List (ℕ × ℕ)
head s =
    let p = s.particulars in
    (2, p.layout)  -- 0–1
    ∷ (1, p.kind)  -- 2
    ∷ (1, p.method)  -- 3
    ∷ (4, p.imo)  -- 4–7
    ∷ (4, p.deadweight.tonnes)  -- 8–11
    ∷ (4, p.gross.gt)  -- 12–15
    ∷ (4, p.cargo)  -- 16–19
    ∷ (4, s.speed.low)  -- 20–23
    ∷ (4, s.speed.high)  -- 24–27
    ∷ (4, p.trial.power)  -- 28–31
    ∷ (4, p.trial.deadweight.tonnes)  -- 32–35
    ∷ (1, p.supply)  -- 36
    ∷ (1, p.ice)  -- 37
    ∷ (1, p.used)  -- 38
    ∷ (1, s.auxiliary.source)  -- 39
    ∷ (4, p.table)  -- 40–43
    ∷ (2, s.auxiliary.sfc.low)  -- 44–45
    ∷ (2, s.auxiliary.sfc.high)  -- 46–47
    ∷ (1, s.auxiliary.fuel)  -- 48
    ∷ (3, 0)  -- 49–51 zero
    ∷ []

-- An engine entry of 20 bytes.
unfoldable pub entry : Engine → List (ℕ × ℕ)
entry e =
    (4, e.mcr.low)
    ∷ (4, e.mcr.high)
    ∷ (4, e.limit)
    ∷ (2, e.uses.sfc.low)
    ∷ (2, e.uses.sfc.high)
    ∷ (1, e.uses.fuel)
    ∷ (1, e.uses.source)
    ∷ (2, 0)  -- zero
    ∷ []

-- Bytes 52–131, the four entries.
unfoldable pub entries : List Engine → List (ℕ × ℕ)
entries es = entry (get_or es 0 no_engine) ++ (entry (get_or es 1 no_engine) ++ (entry (get_or es 2 no_engine) ++ entry (get_or es 3 no_engine)))

-- Bytes 0–507.
unfoldable pub fields : Ship → List (ℕ × ℕ)
fields s = head s ++ (entries s.engines ++ newer s.particulars.build)

-- ── The record of the numbers of a table: each stands where the table has it ────────────────

abbrev pub range_at : List ℕ → ℕ → ℕ → Range
range_at ns low high = record { low = get_or ns low 0; high = get_or ns high 0 }

abbrev pub uses_at : List ℕ → ℕ → ℕ → ℕ → ℕ → Consumption
uses_at ns low high fuel source = record { sfc = range_at ns low high; fuel = get_or ns fuel 0; source = get_or ns source 0 }

abbrev pub engine_from : List ℕ → Engine
engine_from ns = record { mcr = range_at ns 0 1; limit = get_or ns 2 0; uses = uses_at ns 3 4 5 6 }

abbrev pub engines_from : List ℕ → List Engine
engines_from ns = engine_from (drop 20 ns) ∷ engine_from (drop 28 ns) ∷ engine_from (drop 36 ns) ∷ engine_from (drop 44 ns) ∷ []

abbrev pub particulars_from : List ℕ → Particulars
particulars_from ns =
    record {
      imo = get_or ns 3 0;
      kind = get_or ns 1 0;
      deadweight = record { tonnes = get_or ns 4 0 };
      gross = record { gt = get_or ns 5 0 };
      cargo = get_or ns 6 0;
      method = get_or ns 2 0;
      trial = record { power = get_or ns 9 0; deadweight = record { tonnes = get_or ns 10 0 } };
      supply = get_or ns 11 0;
      table = get_or ns 15 0;
      ice = get_or ns 12 0;
      used = get_or ns 13 0;
      layout = get_or ns 0 0;
      build = build_from (drop 52 ns);
    }

unfoldable pub ship_from : List ℕ → Ship
ship_from ns = record { particulars = particulars_from ns; speed = range_at ns 7 8; auxiliary = uses_at ns 16 17 18 14; engines = engines_from ns }

-- The record of no numbers, which stands where there is none.
abbrev pub empty_ship : Ship
empty_ship = ship_from []

-- The widths are every record's.
unfoldable pub widths : List ℕ
widths = widths_of (fields empty_ship)

-- ── Written ─────────────────────────────────────────────────────────────────────────────────

unfoldable pub body : Ship → List ℕ
body s = packed (fields s)

-- Check A starts at 1, B at 0.
unfoldable pub encode : Ship → List ℕ
encode s = body s ++ packed ((2, (sums 1 0 (body s)).a) ∷ (2, (sums 1 0 (body s)).b) ∷ [])

-- ── Read ────────────────────────────────────────────────────────────────────────────────────

-- The numbers of the fields, in order of the table.
unfoldable pub numbers_in : List ℕ → List ℕ
numbers_in b = numbers_at b 0 widths

-- The record that stands in a block.
unfoldable pub ship_in : List ℕ → Ship
ship_in b = ship_from (numbers_in b)

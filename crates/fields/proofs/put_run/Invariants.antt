-- `fields::put_run` meets its contract.
-- Assumes nothing.
use Rattle.std.proofs.Common.{◌≡◌, ◌+◌, ◌++◌, length, take, drop}
use Rattle.fields.specs.Runs.{total, widths_of, packed}
use Rattle.fields.proofs.put_run.Given as goal

abbrev pub invariant-loop-width : goal.invariant-loop-width
invariant-loop-width l =
    (l.at + total (widths_of (drop l.width-index l.fields)) ≡ length l.part)
    × (packed l.fields ≡ take l.at l.part ++ packed (drop l.width-index l.fields))

-- `layout::write_entries` meets its contract.
-- Assumes nothing.
use Rattle.std.proofs.Common.{◌≡◌, ◌*◌, ◌++◌, get_or, drop}
use Rattle.fields.specs.Runs.{packed}
use Rattle.fields.proofs.Runs.{entries_to}
use Rattle.ship.specs.Record.{no_engine}
use Rattle.layout.specs.Layout.{entry}
use Rattle.layout.proofs.write_entries.Given as goal

abbrev pub invariant-loop-i : goal.invariant-loop-i
invariant-loop-i l = l.part ≡ packed (entries_to (λ i. entry (get_or l.engine-items i no_engine)) l.i) ++ drop (20 * l.i) l.initial.part

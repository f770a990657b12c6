-- `build_fields::write_gear` meets its contract.
-- Assumes nothing.
use Rattle.std.proofs.Common.{◌≡◌, ◌*◌, ◌++◌, get_or, drop}
use Rattle.fields.specs.Runs.{packed}
use Rattle.fields.proofs.Runs.{entries_to}
use Rattle.ship.specs.Record.{no_crane}
use Rattle.build_fields.specs.Fields.{crane}
use Rattle.build_fields.proofs.write_gear.Given as goal

abbrev pub invariant-loop-i : goal.invariant-loop-i
invariant-loop-i l = l.part ≡ packed (entries_to (λ i. crane (get_or l.crane-items i no_crane)) l.i) ++ drop (4 * l.i) l.initial.part

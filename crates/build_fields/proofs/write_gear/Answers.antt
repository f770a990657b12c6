-- `build_fields::write_gear` meets its contract.
-- Assumes nothing.
use Rattle.std.proofs.Common.{get_or, refl, arith}
use Rattle.fields.specs.Runs.{pack}
use Rattle.fields.proofs.Runs.{next_entry, entries_written}
use Rattle.ship.specs.Record.{no_crane}
use Rattle.build_fields.specs.Fields.{crane, cranes}
use Rattle.build_fields.proofs.write_gear.Goals as goal

pub loop-i-init : goal.loop-i-init
unfolding pack
loop-i-init c = refl

pub loop-i-preserved : goal.loop-i-preserved
loop-i-preserved c = next_entry (λ i. crane (get_or c.args.gear i no_crane)) 4 (λ i. refl) c.loop-i.i c.args.part.now _ _ c.loop-i.invariant c.put_run.ensures

pub returns : goal.returns
unfolding cranes
returns c = entries_written (λ i. crane (get_or c.args.gear i no_crane)) 4 8 c.loop-i.i c.args.part.now (omega arith) (omega arith) (omega arith) c.loop-i.invariant

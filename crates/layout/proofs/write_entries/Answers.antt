-- `layout::write_entries` meets its contract.
-- Assumes nothing.
use Rattle.std.proofs.Common.{get_or, refl, arith}
use Rattle.fields.specs.Runs.{pack}
use Rattle.fields.proofs.Runs.{next_entry, entries_written}
use Rattle.ship.specs.Record.{no_engine}
use Rattle.layout.specs.Layout.{entry, entries}
use Rattle.layout.proofs.write_entries.Goals as goal

pub loop-i-init : goal.loop-i-init
unfolding pack
loop-i-init c = refl

pub loop-i-preserved : goal.loop-i-preserved
unfolding entry
loop-i-preserved c = next_entry (λ i. entry (get_or c.args.es i no_engine)) 20 (λ i. refl) c.loop-i.i c.args.part.now _ _ c.loop-i.invariant c.write_entry.ensures

pub returns : goal.returns
unfolding entries entry
returns c = entries_written (λ i. entry (get_or c.args.es i no_engine)) 20 4 c.loop-i.i c.args.part.now (omega arith) (omega arith) (omega arith) c.loop-i.invariant

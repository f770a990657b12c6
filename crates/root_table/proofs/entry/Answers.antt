-- `root_table::entry` meets its contract. Assumes nothing.
use native.Mathlib.Omega.{arith}
use Rattle.root_table.specs.Table.{entries, entry_of}
use Rattle.root_table.proofs.Entries.{entry_root}
use Rattle.root_table.proofs.entry.Goals as goal

pub returns : goal.returns
unfolding entry_of entries
returns c = entry_root c.args.i (omega arith)

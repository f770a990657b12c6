-- `block::reading::zeros_broken` meets its contract: it reads the runs that no field has, by the table.
-- Assumes nothing.
use Rattle.std.proofs.Common.{rules}
use Rattle.fields.specs.Runs.{numbers_at}
use Rattle.layout.specs.Layout.{head, entry, entries, fields, widths, numbers_in}
use Rattle.block.specs.Answers.{zeros_refused}
use Rattle.block.proofs.reading.zeros_broken.Goals as goal

pub returns : goal.returns
unfolding zeros_refused numbers_in numbers_at widths fields head entries entry
returns c = search rules

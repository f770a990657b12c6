-- `block::reading::rest_broken` meets its contract: it reads the two runs that no field has, by the table.
-- Assumes nothing.
use Rattle.std.proofs.Common.{rules}
use Rattle.fields.specs.Runs.{numbers_at}
use Rattle.build_fields.specs.Fields.{front, cranes, sizes, added, newer}
use Rattle.layout.specs.Layout.{head, entry, entries, fields, widths, numbers_in}
use Rattle.block.proofs.reading.rest_broken.Goals as goal

pub returns : goal.returns
unfolding numbers_in numbers_at widths fields head entries entry front cranes sizes added newer
returns c = search rules

-- `layout::auxiliary_in` meets its contract.
-- Assumes nothing.
use Rattle.fields.specs.Runs.{numbers_at}
use Rattle.layout.specs.Layout.{head, entry, entries, fields, widths, numbers_in}
use Rattle.layout.proofs.auxiliary_in.Goals as goal

pub returns : goal.returns
unfolding numbers_in numbers_at widths fields head entries entry
returns c =
    let c2 = c in
    λ i. record {
      sfc = record { low = c2.number_at.ensures i; high = c2.number_at-2.ensures i };
      fuel = c.number_at-3.ensures i;
      source = c.number_at-4.ensures i;
    }

-- `layout::particulars_in` meets its contract.
-- Assumes nothing.
use Rattle.fields.specs.Runs.{numbers_at}
use Rattle.build_fields.specs.Fields.{front, cranes, sizes, added, newer, build_from}
use Rattle.layout.specs.Layout.{head, entry, entries, fields, widths, numbers_in}
use Rattle.layout.proofs.particulars_in.Goals as goal

pub returns : goal.returns
unfolding numbers_in numbers_at widths fields head entries entry build_from front cranes sizes added newer
returns c =
    let c12 = c in
    let c9 = c12 in
    let c6 = c9 in
    let c3 = c6 in
    λ i. record {
      imo = c3.number_at-3.ensures i;
      kind = c6.number_at-4.ensures i;
      deadweight = record { tonnes = c6.number_at-5.ensures i };
      gross = record { gt = c6.number_at-6.ensures i };
      cargo = c9.number_at-7.ensures i;
      method = c9.number_at-8.ensures i;
      trial = record { power = c3.number_at.ensures i; deadweight = record { tonnes = c3.number_at-2.ensures i } };
      supply = c9.number_at-9.ensures i;
      table = c12.number_at-10.ensures i;
      ice = c12.number_at-11.ensures i;
      used = c12.number_at-12.ensures i;
      layout = c.number_at-13.ensures i;
      build = c.build_in.ensures i;
    }

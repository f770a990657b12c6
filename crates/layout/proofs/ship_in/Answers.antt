-- `layout::ship_in` meets its contract.
-- Assumes nothing.
use Rattle.std.proofs.Common.{ℕ, ◌+◌, ◌*◌, rules}
use Rattle.std.proofs.lemmas.List.FromFn.{fill_by_all}
use Rattle.fields.specs.Runs.{numbers_at, widths_of}
use Rattle.ship.specs.Record.{no_engine}
use Rattle.ship.specs.declared.Engine.{Engine}
use Rattle.layout.specs.Layout.{head, entry, entries, fields, widths, numbers_in, engine_from, ship_from, ship_in}
use Rattle.layout.proofs.ship_in.Goals as goal

pub returns : goal.returns
unfolding ship_in ship_from numbers_in numbers_at widths fields head entries entry
returns c =
    let items = c.from_fn-engines.ensures.items in
    let at : ℕ → Engine = λ i. engine_from (numbers_at c.args.block.now (52 + 20 * i) (widths_of (entry no_engine))) in
    let made = fill_by_all at c.from_fn-engines.result 4 no_engine items.long (λ k h. let made = items.at k no_engine h in search rules) in
    λ i. record {
      particulars = c.particulars_in-particulars.ensures i;
      speed = record { low = c.number_at.ensures i; high = c.number_at-2.ensures i };
      auxiliary = c.auxiliary_in-auxiliary.ensures i;
      engines = made i;
    }

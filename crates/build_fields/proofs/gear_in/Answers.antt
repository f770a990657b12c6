-- `build_fields::gear_in` meets its contract.
-- Assumes nothing.
use Rattle.std.proofs.Common.{ℕ, ◌+◌, ◌*◌, rules}
use Rattle.std.proofs.lemmas.List.FromFn.{fill_by_all}
use Rattle.fields.specs.Runs.{numbers_at, widths_of}
use Rattle.ship.specs.Record.{no_crane}
use Rattle.ship.specs.declared.Crane.{Crane}
use Rattle.build_fields.specs.Fields.{crane, cranes, crane_from}
use Rattle.build_fields.proofs.gear_in.Goals as goal

pub returns : goal.returns
unfolding numbers_at cranes
returns c =
    let items = c.from_fn.ensures.items in
    let at : ℕ → Crane = λ i. crane_from (numbers_at c.args.block.now (144 + 4 * i) (widths_of (crane no_crane))) in
    fill_by_all at c.from_fn.result 8 no_crane items.long (λ k h. let made = items.at k no_crane h in search rules)

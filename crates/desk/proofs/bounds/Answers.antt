-- `desk::bounds` meets its contract.
-- Assumes nothing.
use mathlib.Core.Path.{sym, ◌∙◌}
use Rattle.std.proofs.Common.{rules}
use Rattle.block.proofs.Answering.{passed, failed}
use Rattle.desk.proofs.Demands.{record_bounded, record_refused}
use Rattle.desk.proofs.bounds.Goals as goal

pub returns-in_err-check : goal.returns-in_err-check
returns-in_err-check c =
    let k = sym (record_refused c.args.s (failed _ (sym c.check.ensures ∙ c.in_err-check.was))) in
    search rules

pub attained-requires : goal.attained-requires
attained-requires c = passed _ (sym c.check.ensures ∙ c.in_ok-check.was)

pub returns : goal.returns
returns c =
    let none = passed _ (sym c.check.ensures ∙ c.in_ok-check.was) in
    rw c.attained.ensures (sym (record_bounded c.args.s none))

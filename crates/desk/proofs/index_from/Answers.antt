-- `desk::index_from` meets its contract.
-- Assumes nothing.
use mathlib.Core.Path.{sym, ◌∙◌}
use Rattle.std.proofs.Common.{rules}
use Rattle.block.proofs.Answering.{passed, failed}
use Rattle.desk.specs.Steps.{index_answer}
use Rattle.desk.proofs.Demands.{both_refused}
use Rattle.desk.proofs.index_from.Goals as goal

pub returns-in_err-check : goal.returns-in_err-check
returns-in_err-check c =
    let k = sym ((both_refused c.args.ship (failed _ (sym c.check.ensures ∙ c.in_err-check.was))).1 c.args.handed) in
    search rules

pub new-requires : goal.new-requires
new-requires c = passed _ (sym c.check.ensures ∙ c.in_ok-check.was)

pub returns : goal.returns
unfolding index_answer
returns c =
    let none = passed _ (sym c.check.ensures ∙ c.in_ok-check.was) in
    rw (c.attained_from.ensures, c.new.ensures, none)

-- `desk::speeds` meets its contract.
-- Assumes nothing.
use mathlib.Core.Path.{sym, ◌∙◌}
use Rattle.std.proofs.Common.{rules}
use Rattle.block.proofs.Answering.{passed, failed}
use Rattle.desk.proofs.Demands.{both_refused, speed_settled}
use Rattle.desk.proofs.speeds.Goals as goal

pub returns-in_err-check : goal.returns-in_err-check
returns-in_err-check c =
    let k = sym (both_refused c.args.s (failed _ (sym c.check.ensures ∙ c.in_err-check.was))).0 in
    search rules

pub new-requires : goal.new-requires
new-requires c = passed _ (sym c.check.ensures ∙ c.in_ok-check.was)

pub returns : goal.returns
returns c =
    let none = passed _ (sym c.check.ensures ∙ c.in_ok-check.was) in
    rw (c.speeds.ensures, c.new.ensures) (sym (speed_settled c.args.s none))

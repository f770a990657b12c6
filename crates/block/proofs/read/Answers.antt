-- `block::read` meets its contract.
-- Assumes nothing.
use mathlib.Core.Path.{sym, ◌∙◌}
use Rattle.std.proofs.Common.{rules}
use Rattle.block.proofs.Answering.{read_short, read_passed, read_failed}
use Rattle.block.proofs.read.Goals as goal

pub returns-in_default : goal.returns-in_default
returns-in_default c = read_short _ c.in_default.ensures.1

pub returns-in_err-check_block : goal.returns-in_err-check_block
returns-in_err-check_block c =
    let whole = c.in-Ok.ensures.1 in
    let k = read_failed _ whole.long (rw (c.ship_in-ship.ensures, whole.same) at (sym c.check_block.ensures ∙ c.in_err-check_block.was)) in
    search rules

pub returns : goal.returns
returns c =
    let whole = c.in-Ok.ensures.1 in
    rw (c.ship_in-ship.ensures, whole.same) (read_passed _ whole.long (rw (c.ship_in-ship.ensures, whole.same) at (sym c.check_block.ensures ∙ c.in_ok-check_block.was)))

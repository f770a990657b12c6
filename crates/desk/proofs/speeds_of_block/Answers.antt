-- `desk::speeds_of_block` meets its contract.
-- Assumes nothing.
use mathlib.Core.Path.{sym, ◌∙◌}
use Rattle.std.proofs.Common.{rules}
use Rattle.block.proofs.Trips.{record_accepted}
use Rattle.block.proofs.Theorems.{read_accepted, read_refused}
use Rattle.desk.specs.Steps.{speeds_answer_of_block}
use Rattle.desk.proofs.Demands.{steps_refused}
use Rattle.desk.proofs.speeds_of_block.Goals as goal

pub returns-in_err-read : goal.returns-in_err-read
returns-in_err-read c =
    let k = sym (steps_refused c.args.block.now (read_refused _ (sym c.read.ensures ∙ c.in_err-read.was))).0 in
    search rules

pub new-requires : goal.new-requires
new-requires c =
    let a = read_accepted _ (sym c.read.ensures ∙ c.in_ok-read.was) in
    rw a.1 (record_accepted _ a.0)

pub returns : goal.returns
unfolding speeds_answer_of_block
returns c =
    let a = read_accepted _ (sym c.read.ensures ∙ c.in_ok-read.was) in
    rw (c.speeds.ensures, c.new.ensures, a.1, a.0)

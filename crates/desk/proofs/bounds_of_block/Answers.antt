-- `desk::bounds_of_block` meets its contract.
-- Assumes nothing.
use mathlib.Core.Path.{sym, ◌∙◌}
use Rattle.std.proofs.Common.{rules}
use Rattle.block.proofs.Trips.{record_accepted}
use Rattle.block.proofs.Theorems.{read_accepted, read_refused}
use Rattle.desk.proofs.Demands.{block_bounded, block_refused}
use Rattle.desk.proofs.bounds_of_block.Goals as goal

pub returns-in_err-read : goal.returns-in_err-read
returns-in_err-read c =
    let k = sym (block_refused c.args.block.now (read_refused _ (sym c.read.ensures ∙ c.in_err-read.was))) in
    search rules

pub attained-requires : goal.attained-requires
attained-requires c =
    let a = read_accepted _ (sym c.read.ensures ∙ c.in_ok-read.was) in
    rw a.1 (record_accepted _ a.0)

pub returns : goal.returns
returns c =
    let a = read_accepted _ (sym c.read.ensures ∙ c.in_ok-read.was) in
    rw (c.attained.ensures, a.1) (sym (block_bounded c.args.block.now a.0))

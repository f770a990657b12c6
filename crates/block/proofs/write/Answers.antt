-- `block::write` meets its contract.
-- Assumes nothing.
use mathlib.Core.Path.{sym, ◌∙◌}
use Rattle.std.proofs.Common.{rules}
use Rattle.block.proofs.Answering.{passed, failed, write_refused, write_no_block, write_accepted}
use Rattle.block.proofs.write.Goals as goal

pub returns-in_err-check : goal.returns-in_err-check
returns-in_err-check c =
    let w = write_refused c.args.file.now c.args.number c.args.ship (failed _ (sym c.check.ensures ∙ c.in_err-check.was)) in
    let k = w.0 in
    record { value = search rules; file_after = w.1 }

pub returns-then-file-n : goal.returns-then-file-n
returns-then-file-n c =
    let w = write_no_block c.args.file.now c.args.number c.args.ship (passed _ (sym c.check.ensures ∙ c.in_ok-check.was)) c.if-file-n.true in
    record { value = w.0; file_after = w.1 }

pub returns : goal.returns
returns c =
    let own = passed _ (sym c.check.ensures ∙ c.in_ok-check.was) in
    let w = write_accepted c.args.file.now c.args.number c.args.ship c.write_block.new.part own c.if-file-n.false c.write_block.ensures in
    record { value = rw w.0; file_after = w.1 }

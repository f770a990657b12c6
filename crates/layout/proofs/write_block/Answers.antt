-- `layout::write_block` meets its contract.
-- Assumes nothing.
use Rattle.layout.proofs.Codec.{block_written}
use Rattle.layout.proofs.write_block.Goals as goal

pub returns : goal.returns
returns c =
    let c_checks = c in
    let c_sums = c_checks in
    let c_body = c_sums in
    let start = c_body in
    block_written start.args.s start.args.part.now start.requires c_body.write_body.ensures c_sums.check_sums-sums.ensures c_checks.write_checks.ensures

-- `decimal::width` meets its contract.
-- Assumes nothing.
use Rattle.std.proofs.Common.{sym, arith}
use Rattle.decimal.proofs.Spelling.{width_small, width_from_log}
use Rattle.decimal.proofs.width.Goals as goal

pub returns-in-Some-clause-value : goal.returns-in-Some-clause-value
returns-in-Some-clause-value c = width_from_log c.in-Some.log c.args.n c.in-Some.ensures.power_le c.in-Some.ensures.next_power_gt

pub returns-in-None-clause-value : goal.returns-in-None-clause-value
returns-in-None-clause-value c = sym (width_small c.args.n (omega (arith, c.in-None.ensures.none)))

-- `asked_lines::put_lines` meets its contract.
-- Assumes nothing.
use Rattle.std.proofs.Common.{arith}
use Rattle.lines.proofs.Files.{no_room, more_room}
use Rattle.asked_lines.proofs.put_lines.Goals as goal

pub returns-then-out-div_ceil : goal.returns-then-out-div_ceil
returns-then-out-div_ceil g c = no_room g.Q.Question.line _ 126 _ _ (omega arith) (omega arith)

pub returns : goal.returns
returns g c =
    let q = g.Q.Question in
    more_room q.line q.LONGEST 126 _ _ g.met.Q.Question.fits.1 (omega arith) c.put_lines.ensures

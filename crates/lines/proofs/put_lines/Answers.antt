-- `lines::put_lines` meets its contract.
-- Assumes nothing.
use Rattle.std.proofs.Common.{◌/◌, length, ap, arith}
use Rattle.lines.proofs.Files.{with_room, no_room}
use Rattle.lines.proofs.put_lines.Goals as goal

pub returns-then-out-LONGEST : goal.returns-then-out-LONGEST
returns-then-out-LONGEST g c =
    let q = g.Q.Question in
    let room = ap (λ k. length c.args.out.now / k) c.LONGEST.ensures in
    no_room q.line c.args.out.now q.LONGEST c.args.first c.args.bytes.now g.met.Q.Question.fits.0 (omega (arith, room))

pub returns : goal.returns
returns g c =
    let q = g.Q.Question in
    let room = ap (λ k. length c.args.out.now / k) c.LONGEST.ensures in
    with_room q.line q.LONGEST c.args.first c.args.bytes.now (omega (arith, room)) c.put_pieces.ensures

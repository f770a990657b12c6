-- `ship::accepted::Accepted::engines` meets its contract. Assumes nothing.
use Rattle.ship.proofs.Right.{numbers_accepted}
use Rattle.ship.proofs.accepted.Accepted.engines.Goals as goal

pub shared_ref_as_front-result : goal.shared_ref_as_front-result
shared_ref_as_front-result c = (numbers_accepted _ c.args.self.now.accepted).used.most

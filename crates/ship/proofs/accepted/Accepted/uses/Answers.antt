-- `ship::accepted::Accepted::uses` meets its contract. Assumes nothing.
use Rattle.ship.proofs.Right.{numbers_accepted}
use Rattle.ship.proofs.accepted.Accepted.uses.Goals as goal

pub uses_in-requires : goal.uses_in-requires
uses_in-requires c = (numbers_accepted _ c.args.self.now.accepted).auxiliary_uses.fuelled

-- `ship::accepted::Accepted::edition` meets its contract. Assumes nothing.
use Rattle.ship.proofs.Right.{numbers_accepted}
use Rattle.ship.proofs.accepted.Accepted.edition.Goals as goal

pub unwrap-requires : goal.unwrap-requires
unwrap-requires c = c.try_from.ensures.0.1 (numbers_accepted _ c.args.self.now.accepted).edition

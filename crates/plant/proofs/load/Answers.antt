-- `plant::load` meets its contract.
-- Assumes nothing.
use Rattle.ship.specs.Figures.{figures}
use Rattle.ship.proofs.Right.{numbers_accepted}
use Rattle.plant.specs.Plant.{load_of}
use Rattle.plant.proofs.load.Goals as goal

pub capacity_of-capacity-requires : goal.capacity_of-capacity-requires
capacity_of-capacity-requires c = (numbers_accepted _ c.args.a.now.accepted).deadweight.most

pub allowance-requires : goal.allowance-requires
allowance-requires c = (numbers_accepted _ c.args.a.now.accepted).build.lightweight

pub returns : goal.returns
unfolding figures load_of
returns c = rw (c.capacity_of-capacity.ensures.0, c.allowance.ensures.0, c.ice_factor.ensures.0, c.kind-kind.ensures, c.edition.ensures, c.ice.ensures)

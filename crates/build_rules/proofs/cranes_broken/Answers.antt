-- `build_rules::cranes_broken` meets its contract.
-- Assumes nothing.
use Rattle.std.proofs.Common.{rules}
use Rattle.ship.specs.Rules.{crane_refused}
use Rattle.ship.proofs.Tests.{any_place}
use Rattle.build_rules.proofs.cranes_broken.Goals as goal

pub returns : goal.returns
returns c = rw (c.any_broken.ensures, any_place (crane_refused c.args.used) c.args.gear.now (search rules))

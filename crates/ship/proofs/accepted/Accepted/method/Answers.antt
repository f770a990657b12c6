-- `ship::accepted::Accepted::method` meets its contract. Assumes nothing.
use native.Mathlib.Omega.{arith}
use Rattle.ship.specs.Figures.{method_of}
use Rattle.ship.proofs.Right.{numbers_accepted}
use Rattle.ship.proofs.accepted.Accepted.method.Goals as goal

pub returns-in-1 : goal.returns-in-1
unfolding method_of
returns-in-1 c v = rw c.in-1.is

pub returns-in-2 : goal.returns-in-2
unfolding method_of
returns-in-2 c v = rw c.in-2.is

pub returns-in-3 : goal.returns-in-3
unfolding method_of
returns-in-3 c v = rw c.in-3.is

pub returns-in-4 : goal.returns-in-4
unfolding method_of
returns-in-4 c v = rw c.in-4.is

-- No number from 1 to 4 is left.
pub unreachable-requires : goal.unreachable-requires
unreachable-requires c =
    let w = (numbers_accepted _ c.args.self.now.accepted).speed.method in
    omega (arith, w.least, w.most)

-- `plain_power::Num::mean` meets its contract. Assumes nothing.
use native.Mathlib.Nat.{zero-lt-suc}
use Rattle.root.proofs.Roots.{root_named}
use Rattle.plain_power.specs.Steps.{mean_of}
use Rattle.plain_power.proofs.Squares.{product_evened}
use Rattle.plain_power.proofs.Num.mean.Goals as goal

pub mantissa-m-requires : goal.mantissa-m-requires
mantissa-m-requires c =
    let given = c.requires in
    (rw c.evened-s.ensures (product_evened given.0 given.1).high, c.near_root-near.ensures.0, c.near_root-near.ensures.1)

pub returns : goal.returns
unfolding mean_of
returns c = rw (root_named (zero-lt-suc 1) c.mantissa-m.ensures, c.evened-s.ensures)

-- `plain_power::Pair::means` meets its contract. Assumes nothing.
use mathlib.Core.Path.{◌≡◌}
use Rattle.plain_power.specs.Steps.{mean_of, means_of}
use Rattle.plain_power.proofs.Squares.{mean_is}
use Rattle.plain_power.proofs.Pair.means.Goals as goal

pub next-requires : goal.next-requires
next-requires c =
    let given = c.requires in
    rw c.mean-2.ensures (mean_is given.0.1 given.1.1).high

pub returns : goal.returns
unfolding means_of
returns c =
    let given = c.args in
    let lower : c.mean.result ≡ mean_of given.self.lo given.y.lo = c.mean.ensures in
    let upper : c.mean-2.result ≡ mean_of given.self.hi given.y.hi = c.mean-2.ensures in
    rw (c.next.ensures, lower, upper)

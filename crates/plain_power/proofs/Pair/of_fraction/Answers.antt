-- `plain_power::Pair::of_fraction` meets its contract. Assumes nothing.
use Rattle.plain_power.specs.Steps.{base_of}
use Rattle.plain_power.proofs.Leading.{quotient_low, quotient_high, cut_is}
use Rattle.plain_power.proofs.Pair.of_fraction.Goals as goal

pub next-requires : goal.next-requires
next-requires c =
    let at = c.requires in
    rw c.cut-lo.ensures (cut_is _ (quotient_low at.0 at.1 at.2) (quotient_high at.0 at.1 at.2)).1

pub returns : goal.returns
unfolding base_of
returns c = rw (c.next.ensures, c.cut-lo.ensures)

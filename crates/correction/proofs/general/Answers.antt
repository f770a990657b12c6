-- `correction::general` meets its contract. Assumes nothing.
use native.Mathlib.Omega.{arith}
use Rattle.correction.specs.Correction.{general_of}
use Rattle.correction.proofs.Froude.{froude_limits, froude_spread}
use Rattle.correction.proofs.Block.{block_high, block_spread}
use Rattle.correction.proofs.Laws.{by_speed, by_hull}
use Rattle.correction.proofs.general.Goals as goal

pub raised-y-requires : goal.raised-y-requires
raised-y-requires c = rw c.inverse_froude-a.ensures (froude_spread c.requires.1 c.requires.0)

pub overflow_add-e : goal.overflow_add-e
overflow_add-e c = rw c.inverse_block-e.ensures (omega (arith, block_high c.requires.1))

pub raised-c-requires : goal.raised-c-requires
raised-c-requires c = rw c.inverse_block-e.ensures (block_spread c.requires.1)

pub product-requires : goal.product-requires
product-requires c =
    let block = c in
    let speed = block in
    let froude = speed in
    let given = froude.requires in (
      rw froude.inverse_froude-a.ensures (froude_limits given.1 given.0),
      rw (speed.raised-y.ensures, froude.inverse_froude-a.ensures) (by_speed given.0 given.1).size,
      rw (c.raised-c.ensures, block.inverse_block-e.ensures) (by_hull given.0 given.1).size,
    )

pub returns : goal.returns
unfolding general_of
returns c = cc

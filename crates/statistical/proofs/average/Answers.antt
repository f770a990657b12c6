-- `statistical::average` meets its contract. Assumes nothing.
use Prim.Native.Nat.{◌*◌, ◌^◌, ◌≤◌}
use native.Mathlib.Omega.{arith}
use Rattle.ship.specs.Figures.{deadweight_of}
use Rattle.ship.specs.Kinds.{type_of}
use Rattle.statistical.specs.Curves.{average_of}
use Rattle.statistical.proofs.Rows.{row_fits}
use Rattle.statistical.proofs.Statistics.{average_raisable, low_fits, high_fits}
use Rattle.statistical.proofs.average.Goals as goal
use Rattle.statistical.proofs.average.Goals.{After-power-x}

-- The products fit, as those of the names do.
fits : (c : After-power-x)
    → (c.row_of-row.result.a ≤ 166773)
    × (c.row_of-row.result.a * 3125 * c.power-x.result.lo ≤ 2 ^ 62)
    × (c.row_of-row.result.a * 3125 * c.power-x.result.hi ≤ 2 ^ 62)
fits c =
    let kind = type_of c.args.kind in
    let dwt = deadweight_of c.args.deadweight in
    rw (c.power-x.ensures, c.size-b.ensures, c.row_of-row.ensures.c_is, c.row_of-row.ensures.a_is)
    ((row_fits kind).1.a_high, omega (arith, low_fits kind dwt c.requires), omega (arith, high_fits kind dwt c.requires))

pub power-x-requires : goal.power-x-requires
power-x-requires c =
    rw (c.size-b.ensures, c.row_of-row.ensures.c_is) (average_raisable (type_of c.args.kind) (deadweight_of c.args.deadweight) c.requires)

pub overflow_mul-t : goal.overflow_mul-t
overflow_mul-t c =
    omega (arith, (fits (goal.at.overflow_mul-t c).After-power-x).0)

pub overflow_mul-result : goal.overflow_mul-result
overflow_mul-result c =
    omega (arith, (fits (goal.at.overflow_mul-result c).After-power-x).1)

pub overflow_mul-result-2 : goal.overflow_mul-result-2
overflow_mul-result-2 c =
    omega (arith, (fits (goal.at.overflow_mul-result-2 c).After-power-x).2)

pub overflow_add-result : goal.overflow_add-result
overflow_add-result c =
    omega (arith, (fits (goal.at.overflow_add-result c).After-power-x).2)

pub returns : goal.returns
unfolding average_of
returns c = rw (c.power-x.ensures, c.size-b.ensures, c.row_of-row.ensures.c_is, c.row_of-row.ensures.a_is)

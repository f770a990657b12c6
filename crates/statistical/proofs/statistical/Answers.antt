-- `statistical::statistical` meets its contract. Assumes nothing.
use Prim.Native.Nat.{◌^◌, ◌≤◌}
use native.Mathlib.Nat.{le_trans}
use native.Mathlib.Omega.{arith}
use Rattle.ship.specs.Figures.{deadweight_of}
use Rattle.ship.specs.Kinds.{type_of}
use Rattle.statistical.specs.Curves.{statistical_of}
use Rattle.statistical.proofs.Rows.{row_fits}
use Rattle.statistical.proofs.Statistics.{Averaged, averaged, kept, over_raisable, statistical_parted, statistical_moderate}
use Rattle.statistical.proofs.statistical.Goals as goal
use Rattle.statistical.proofs.statistical.Goals.{After-average-v}

pub returns : goal.returns
unfolding statistical_of
returns c =
    let row = c.row_of-row.ensures in
    rw (c.speed_from.ensures, c.less_margin.ensures, c.less_margin-2.ensures, c.average-v.ensures, c.power-over.ensures)
    (rw (c.size-e.ensures, row.f_is, row.d_is))

average_is : (c : After-average-v) → Averaged (type_of c.args.kind) (deadweight_of c.args.deadweight) c.average-v.result
average_is c = rw c.average-v.ensures (averaged _ _ c.requires.0)

pub less_margin-requires : goal.less_margin-requires
less_margin-requires c =
    let a = average_is (goal.at.less_margin-requires c).After-average-v in
    (omega (arith, a.low), omega (arith, a.order, a.high))

pub less_margin-requires-2 : goal.less_margin-requires-2
less_margin-requires-2 c =
    let a = average_is (goal.at.less_margin-requires-2 c).After-average-v in
    (omega (arith, a.low, a.order), omega (arith, a.high))

pub overflow_add-base : goal.overflow_add-base
overflow_add-base c =
    let h : c.less_margin-2.result ≤ 2 ^ 37 = rw c.less_margin-2.ensures (le_trans (kept _).less (average_is (goal.at.overflow_add-base c).After-average-v).high) in
    omega arith

pub power-over-requires : goal.power-over-requires
power-over-requires c =
    rw (c.size-e.ensures, c.row_of-row.ensures.f_is)
    (over_raisable (type_of c.args.kind) (deadweight_of c.args.deadweight) c.args.power c.requires.0 c.requires.1)

pub overflow_mul-row : goal.overflow_mul-row
overflow_mul-row c =
    let h : c.row_of-row.result.d ≤ 2627693 = rw c.row_of-row.ensures.d_is (row_fits (type_of c.args.kind)).1.d_high in
    omega arith

pub speed_from-requires : goal.speed_from-requires
speed_from-requires c =
    let kind = type_of c.args.kind in
    let dwt = deadweight_of c.args.deadweight in
    rw (c.less_margin.ensures, c.less_margin-2.ensures, c.average-v.ensures, c.power-over.ensures, c.size-e.ensures)
    (rw (c.row_of-row.ensures.f_is, c.row_of-row.ensures.d_is)
    (statistical_parted kind dwt c.args.power c.requires.0 c.requires.1, statistical_moderate kind dwt c.args.power c.requires.0 c.requires.1))

-- `propeller::speed_from` meets its contract: two roundings the same way are one. Assumes nothing.
use mathlib.Core.Path.{◌≡◌, ap, ap₂, ◌∙◌}
use Prim.Native.Nat.{◌*◌, ◌/◌, ◌^◌, ◌≤◌, ◌<◌}
use native.Mathlib.Nat.{le_trans, lt_of_le_of_lt, mul-pos}
use native.Mathlib.Omega.{arith}
use lib.Dec.{lit<}
use Rattle.number.specs.Division.{ceil_of}
use Rattle.number.specs.Ratio.{cube_root_of}
use Rattle.number.specs.declared.ratio.Rooted.{Rooted}
use Rattle.number.proofs.Divisions.{floor_floor, floor_is, floor_named, ceil_ceil, ceil_named, div_ceil_is}
use Rattle.number.proofs.Ratios.{cube_named}
use Rattle.propeller.specs.Propeller.{pair, speed_from}
use Rattle.propeller.proofs.Products.{scale_some, low_product, high_product}
use Rattle.propeller.proofs.speed_from.Goals as goal
use Rattle.propeller.proofs.speed_from.Goals.{After-cube_root-r}

-- The root by its name, and what fits of it.
is : (c : After-cube_root-r) → c.cube_root-r.result ≡ cube_root_of c.args.n c.args.d
is c = cube_named c.requires.1 _ c.cube_root-r.ensures

fits : (c : After-cube_root-r)
    → (c.args.s.base.lo * c.cube_root-r.result.low ≤ 2 ^ 59) × (c.args.s.base.hi * c.cube_root-r.result.high ≤ 2 ^ 59) × (0 < c.cube_root-r.result.scale * 1000)
fits c =
    let p = c.requires.0 in
    let m = c.requires.1 in
    rw (is c) (low_product p m, high_product p m, scale_some p m)

named : (c : After-cube_root-r)
    → let s = c.args.s in
    let r = c.cube_root-r.result in
    pair (s.base.lo * r.low * 2 ^ 30 / (s.over.hi * (r.scale * 1000))) (ceil_of (s.base.hi * r.high * 2 ^ 30) (s.over.lo * (r.scale * 1000)))
    ≡ speed_from s c.args.n c.args.d
unfolding speed_from
named c =
    let s = c.args.s in
    ap
    (λ (r : Rooted). pair (s.base.lo * r.low * 2 ^ 30 / (s.over.hi * (r.scale * 1000))) (ceil_of (s.base.hi * r.high * 2 ^ 30) (s.over.lo * (r.scale * 1000))))
    (is c)

pub returns : goal.returns
returns c =
    let at = (goal.at.returns c).After-cube_root-r in
    let p = at.requires.0 in
    let some = (fits at).2 in
    let low_some = mul-pos (omega (arith, p.over_low, p.over_order)) some in
    let high_some = mul-pos (omega (arith, p.over_low)) some in
    ap₂ pair (floor_named low_some (floor_floor c.quotient.ensures.floor (floor_is _ _ some)))
    (c.div_ceil-hi.ensures ∙ ceil_named high_some (ceil_ceil c.quotient-2.ensures.ceil (div_ceil_is _ _ some)))
    ∙ named at

pub overflow_mul-base : goal.overflow_mul-base
overflow_mul-base c = omega (arith, (fits (goal.at.overflow_mul-base c).After-cube_root-r).0)

pub quotient-requires : goal.quotient-requires
quotient-requires c =
    let p = c.requires.0 in
    (le_trans p.over_low p.over_order, p.over_high, lt_of_le_of_lt (fits (goal.at.quotient-requires c).After-cube_root-r).0 (lit< tt))

pub overflow_mul-base-2 : goal.overflow_mul-base-2
overflow_mul-base-2 c = omega (arith, (fits (goal.at.overflow_mul-base-2 c).After-cube_root-r).1)

pub quotient-requires-2 : goal.quotient-requires-2
quotient-requires-2 c =
    let p = c.requires.0 in
    (p.over_low, le_trans p.over_order p.over_high, lt_of_le_of_lt (fits (goal.at.quotient-requires-2 c).After-cube_root-r).1 (lit< tt))

-- `index::attained` meets its contract. Assumes nothing.
use Prim.Native.Nat.{◌+◌}
use mathlib.Core.Path.{◌≡◌, sym, ◌∙◌}
use mathlib.Core.Bool.{true, false}
use native.Mathlib.Omega.{arith}
use Rattle.ship.specs.Figures.{figures}
use Rattle.correction.specs.Correction.{Fast}
use Rattle.index.specs.Attained.{Sized, main_of, speeds_of, index_of}
use Rattle.index.proofs.Records.{own_speed, own_hull, main_small, lower_sized, upper_sized, lower_named, upper_named}
use Rattle.index.proofs.attained.Goals as goal
use Rattle.index.proofs.attained.Goals.{After-main_engines-main}

-- The main engines' emissions with f_j, by the record's own figures.
module _ (c : After-main_engines-main) where
  low_is : c.main_engines-main.result.low
      ≡ (main_of (figures c.args.a.now.ship).ship.kind c.args.v.most (figures c.args.a.now.ship).ship.hull c.emissions-n.result.main.low).lo
  unfolding figures
  low_is = rw c.kind.ensures at c.main_engines-main.ensures.low_value

  high_is : c.main_engines-main.result.high
      ≡ (main_of (figures c.args.a.now.ship).ship.kind c.args.v.most (figures c.args.a.now.ship).ship.hull c.emissions-n.result.main.high).hi
  unfolding figures
  high_is = rw c.kind.ensures at c.main_engines-main.ensures.high_value

  -- What the two roundings ask.
  lower_asked : Sized (c.main_engines-main.result.low + c.emissions-n.result.auxiliary.low) c.load-load.result c.args.v.most.hi c.factor-c.result.hi
  lower_asked = lower_sized c.args.a.now c.requires c.factor-c.ensures c.load-load.ensures c.emissions-n.ensures low_is high_is

  upper_asked : Sized (c.main_engines-main.result.high + c.emissions-n.result.auxiliary.high) c.load-load.result c.args.v.least.lo c.factor-c.result.lo
  upper_asked = upper_sized c.args.a.now c.requires c.factor-c.ensures c.load-load.ensures c.emissions-n.ensures low_is high_is

pub returns : goal.returns
unfolding index_of
returns c =
    let m = (goal.at.returns c).After-main_engines-main in
    rw (
      c.between.ensures.lower_value ∙ lower_named c.args.a.now c.requires c.factor-c.ensures c.load-load.ensures c.emissions-n.ensures (low_is m) (high_is m),
      c.between.ensures.upper_value ∙ upper_named c.args.a.now c.requires c.factor-c.ensures c.load-load.ensures c.emissions-n.ensures (low_is m) (high_is m),
    )

pub main_engines-main-requires : goal.main_engines-main-requires
unfolding speeds_of
main_engines-main-requires c =
    let a = c.args.a.now in
    let n = c.emissions-n.ensures in
    let v : Fast c.args.v.most = rw c.requires (own_speed a) in
    record {
      fast = (v, λ k. own_hull a (sym c.kind.ensures ∙ k));
      low_bound = (rw n (main_small a false), rw n (main_small a true));
    }

pub overflow_add-low : goal.overflow_add-low
overflow_add-low c = omega (arith, (lower_asked (goal.at.overflow_add-low c).After-main_engines-main).emitted)

pub overflow_add-high : goal.overflow_add-high
overflow_add-high c = omega (arith, (upper_asked (goal.at.overflow_add-high c).After-main_engines-main).emitted)

pub between-requires : goal.between-requires
between-requires c =
    let m = (goal.at.between-requires c).After-main_engines-main in
    (lower_asked m, upper_asked m)

-- `speed::Loaded::up` meets its contract. Assumes nothing.
use Prim.Native.Nat.{◌*◌, ◌^◌, ◌≤◌}
use lib.Dec.{lit<}
use native.Mathlib.Omega.{arith}
use Rattle.number.proofs.Divisions.{div_ceil_named}
use Rattle.speed.specs.Speeds.{up_of}
use Rattle.speed.proofs.Designs.{up_fits}
use Rattle.speed.proofs.Loaded.up.Goals as goal
use Rattle.speed.proofs.Loaded.up.Goals.{After-power-x}

fits : (c : After-power-x) → (c.args.self.now.g.lo * c.power-x.result.lo ≤ 2 ^ 61) × (c.args.self.now.g.hi * c.power-x.result.hi ≤ 2 ^ 61)
fits c = rw c.power-x.ensures (up_fits c.args.self.now.root c.args.self.now.fives c.requires)

pub overflow_mul-f : goal.overflow_mul-f
overflow_mul-f c =
    omega (arith, (fits (goal.at.overflow_mul-f c).After-power-x).0)

pub overflow_mul-self : goal.overflow_mul-self
overflow_mul-self c =
    omega (arith, (fits (goal.at.overflow_mul-self c).After-power-x).1)

pub times-requires : goal.times-requires
times-requires c =
    (c.args.self.now.slow.most, omega (arith, (fits (goal.at.times-requires c).After-power-x).0), omega (arith, (fits (goal.at.times-requires c).After-power-x).1))

pub returns : goal.returns
unfolding up_of
returns c = rw (c.times.ensures, c.div_ceil.ensures, div_ceil_named _ (2 ^ 30) (lit< tt), c.power-x.ensures, c.exactly.ensures)

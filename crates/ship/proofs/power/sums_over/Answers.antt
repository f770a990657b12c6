-- `ship::power::sums_over` meets its contract: after i engines the sums are those of the first i.
-- Assumes nothing.
use native.Mathlib.Omega.{arith}
use Rattle.std.proofs.Common.{◌≡◌, get_or, length}
use Rattle.exact.specs.Ranges as ranges
use Rattle.ship.specs.Record.{no_engine}
use Rattle.ship.proofs.Sums.{sum_step, all_mains}
use Rattle.ship.proofs.Tests.{engine_inside, limit_most}
use Rattle.ship.proofs.power.sums_over.Goals as goal

pub engine_power-low-requires : goal.engine_power-low-requires
engine_power-low-requires c =
    let z = engine_inside (get_or c.args.engines.now c.loop-e.e-index no_engine) (c.requires.1 c.loop-e.e-index c.loop-e-test.true) in
    (z.low.most, omega (arith, limit_most _ z, z.low.most))

pub engine_power-high-requires : goal.engine_power-high-requires
engine_power-high-requires c =
    let z = engine_inside (get_or c.args.engines.now c.loop-e.e-index no_engine) (c.requires.1 c.loop-e.e-index c.loop-e-test.true) in
    (z.high.most, omega (arith, limit_most _ z, z.low.most))

pub loop-e-preserved : goal.loop-e-preserved
loop-e-preserved c =
    let inv = c.loop-e.invariant in
    let es = c.args.engines.now in (
      omega (arith, inv.0, c.engine_power-low.ensures.1),
      omega (arith, inv.1, c.engine_power-high.ensures.1),
      rw (c.engine_power-low.ensures.0, inv.2, sum_step _ es c.loop-e-test.true ranges.low),
      rw (c.engine_power-high.ensures.0, inv.3, sum_step _ es c.loop-e-test.true ranges.high),
    )

pub returns : goal.returns
returns c =
    let es = c.args.engines.now in
    let all : c.loop-e.e-index ≡ length es = omega arith in
    record {
      low_value = rw (← all_mains es, ← all) (c.loop-e.invariant.2, c.loop-e.invariant.3);
      low_bound = omega (arith, c.loop-e.invariant.0, c.requires.0, all);
    }

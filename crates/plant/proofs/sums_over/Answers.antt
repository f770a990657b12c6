-- `plant::sums_over` meets its contract: after i engines the sums are those of the first i.
-- Assumes nothing.
use native.Mathlib.Nat.{le_refl}
use native.Mathlib.Omega.{arith}
use mathlib.Core.Bool.{true, false}
use mathlib.Core.Path.{◌≡◌, sym, ◌∙◌}
use lib.ListN.{length}
use Rattle.exact.specs.Ranges.{low, high}
use Rattle.ship.proofs.Sums.{all_mains}
use Rattle.plant.proofs.Steps.{no_sums, sums_step, roomy}
use Rattle.plant.proofs.sums_over.Goals as goal

pub loop-e-init : goal.loop-e-init
loop-e-init c = (sym (no_sums low c.args.engines.now), sym (no_sums high c.args.engines.now))

pub and_engine-low-requires : goal.and_engine-low-requires
and_engine-low-requires c =
    let es = c.args.engines.now in
    (c.requires.1 _ c.loop-e-test.true, rw c.loop-e.invariant.0 (roomy false _ es c.requires.1 c.requires.0 (le_refl _) _ c.loop-e-test.true), c.uses_in-uses.ensures)

pub and_engine-high-requires : goal.and_engine-high-requires
and_engine-high-requires c =
    let es = c.args.engines.now in
    (c.requires.1 _ c.loop-e-test.true, rw c.loop-e.invariant.1 (roomy true _ es c.requires.1 c.requires.0 (le_refl _) _ c.loop-e-test.true), c.uses_in-uses.ensures)

pub loop-e-preserved : goal.loop-e-preserved
loop-e-preserved c = (
  rw c.loop-e.invariant.0 at c.and_engine-low.ensures ∙ sums_step low c.args.engines.now _ c.loop-e-test.true,
  rw c.loop-e.invariant.1 at c.and_engine-high.ensures ∙ sums_step high c.args.engines.now _ c.loop-e-test.true,
)

pub returns-clause-low_end : goal.returns-clause-low_end
returns-clause-low_end c =
    let es = c.args.engines.now in
    let all : c.loop-e.e-index ≡ length es = omega arith in
    rw (← all_mains es, ← all) c.loop-e.invariant.0

pub returns-clause-high_end : goal.returns-clause-high_end
returns-clause-high_end c =
    let es = c.args.engines.now in
    let all : c.loop-e.e-index ≡ length es = omega arith in
    rw (← all_mains es, ← all) c.loop-e.invariant.1

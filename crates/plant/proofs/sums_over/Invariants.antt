-- `plant::sums_over` meets its contract: after i engines the sums are those of the first i.
-- Assumes nothing.
use mathlib.Core.Path.{◌≡◌}
use Rattle.exact.specs.Ranges.{low, high, engines_at}
use Rattle.ship.specs.Figures.{mains}
use Rattle.plant.specs.Plant.{sums_of}
use Rattle.plant.proofs.sums_over.Given as goal

abbrev pub invariant-loop-e : goal.invariant-loop-e
invariant-loop-e l =
    (l.low ≡ sums_of (engines_at low (mains l.e-index l.engines))) × (l.high ≡ sums_of (engines_at high (mains l.e-index l.engines)))

-- `ship::power::sums_over` meets its contract: after i engines the sums are those of the first i.
-- Assumes nothing.
use Rattle.std.proofs.Common.{◌≡◌, ◌*◌, ◌≤◌}
use Rattle.exact.specs.Index.{sum_P_ME}
use Rattle.exact.specs.Ranges as ranges
use Rattle.exact.specs.Ranges.{engines_at}
use Rattle.ship.specs.Figures.{mains}
use Rattle.ship.proofs.power.sums_over.Given as goal

abbrev pub invariant-loop-e : goal.invariant-loop-e
invariant-loop-e l =
    (l.low ≤ l.e-index * 9000000) × (l.high ≤ l.e-index * 9000000)
    × (l.low ≡ sum_P_ME (engines_at ranges.low (mains l.e-index l.engines)))
    × (l.high ≡ sum_P_ME (engines_at ranges.high (mains l.e-index l.engines)))

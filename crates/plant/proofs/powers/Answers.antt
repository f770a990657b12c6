-- `plant::powers` meets its contract.
-- Assumes nothing.
use Prim.Native.Nat.{ℕ}
use mathlib.Core.Path.{◌≡◌}
use Rattle.exact.specs.Ranges.{ship_at}
use Rattle.ship.specs.Figures.{figures}
use Rattle.ship.specs.declared.Range.{Range}
use Rattle.ship.proofs.Tests.{engines_inside}
use Rattle.ship.proofs.Right.{no_refusal}
use Rattle.plant.proofs.powers.Goals as goal

both : {r : Range} {low high : ℕ} → r.low ≡ low → r.high ≡ high → r ≡ record { low = low; high = high }
both e f = rw (← e, ← f)

pub power_sums-requires : goal.power_sums-requires
power_sums-requires c =
    let k = engines_inside c.args.a.now.ship.particulars.used c.args.a.now.ship.engines (no_refusal _ c.args.a.now.accepted).early.engines in
    (k.0.most, k.1)

pub returns : goal.returns
unfolding figures ship_at
returns c = both c.power_sums.ensures.low_value.0 c.power_sums.ensures.low_value.1

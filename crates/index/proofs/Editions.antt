-- What edition and ice class do to the bounds: they do it by f_m and by the vehicle carriers' f_c alone.
-- Assumes nothing.
use mathlib.Core.Path.{◌≡◌}
use Rattle.exact.specs.Ship.{vehicle, IceClass, Edition, Figures}
use Rattle.exact.specs.Ranges.{Range, ship_at}
use Rattle.exact.specs.Index.{f_m}
use Rattle.exact.proofs.Rules.{under}
use Rattle.plant.specs.Plant.{main_N, auxiliary_N, load_of}
use Rattle.factor.specs.Factor.{vehicles_by}
use Rattle.factor.proofs.Laws.{factor_under}
use Rattle.index.specs.Attained.{emitted, speed_of, factor_of, lower_of, upper_of, index_of}

-- The same figures under another edition and in another ice class.
abbrev pub figures_under : Edition → IceClass → Figures Range → Figures Range
figures_under edition ice r = record { ship = under edition ice r.ship; engines = r.engines; auxiliary_uses = r.auxiliary_uses; method = r.method }

pub bounds_under : (edition : Edition) (ice : IceClass) (r : Figures Range)
    → f_m edition ice ≡ f_m r.ship.edition r.ship.ice
    → (r.ship.kind ≡ vehicle → vehicles_by edition r.ship.deadweight r.ship.gross ≡ vehicles_by r.ship.edition r.ship.deadweight r.ship.gross)
    → index_of (figures_under edition ice r) ≡ index_of r
unfolding index_of lower_of upper_of emitted speed_of factor_of main_N auxiliary_N load_of ship_at
bounds_under edition ice r m c = rw (m, factor_under r.ship.kind edition ice r.ship c)

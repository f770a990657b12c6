-- The sums over the engines that are used, one engine more at a time.
-- Assumes nothing.
use Prim.Native.Nat.{ℕ, ◌+◌, ◌*◌, ◌≤◌, ◌<◌}
use mathlib.Core.Path.{◌≡◌, refl}
use mathlib.Core.Bool.{Bool}
use mathlib.Core.List.{List}
use native.Mathlib.Numerals.{add-one}
use native.Mathlib.Omega.{arith}
use lib.ListN.{length, get_or}
use Rattle.exact.specs.Index.{P_ME, rated}
use Rattle.exact.specs.Ranges.{Range, engines_at}
use Rattle.ship.specs.Record.{no_engine}
use Rattle.ship.specs.Figures.{entry_at, mains}
use Rattle.ship.specs.Accepted.{Rated}
use Rattle.ship.specs.declared.Engine.{Engine}
use Rattle.ship.proofs.Sums.{sum_grows}
use Rattle.ship.proofs.Figured.{each_main, count}
use Rattle.plant.specs.Plant.{end, Entered, Roomy, grams, main_grams, sums_of, with_engine}
use Rattle.plant.proofs.Growth.{bounded}

pub no_sums : (p : Range → ℕ) (es : List Engine) → sums_of (engines_at p (mains 0 es)) ≡ record { rated = 0; grams = 0 }
unfolding mains engines_at rated main_grams
no_sums p es = refl

pub sums_step : (p : Range → ℕ) (es : List Engine) (i : ℕ) → i < length es
    → with_engine (sums_of (engines_at p (mains i es))) (entry_at p (get_or es i no_engine)) ≡ sums_of (engines_at p (mains (i + 1) es))
unfolding rated main_grams
sums_step p es i h =
    rw (
      add-one,
      sum_grows rated (λ e. e.mcr) refl (λ e es. refl) p i es h,
      sum_grows main_grams (λ e. P_ME e.mcr e.limit * grams 190 e.uses) refl (λ e es. refl) p i es h,
    )

-- Where a further engine is used, the sums have room for it.
pub roomy : (top : Bool) (n : ℕ) (es : List Engine) → ((i : ℕ) → i < n → Entered (get_or es i no_engine)) → n ≤ 4 → n ≤ length es → (i : ℕ) → i < n
    → Roomy (sums_of (engines_at (end top) (mains i es)))
roomy top n es entered four long i h =
    let room : i ≤ length es = omega arith in
    let b = bounded top (each_main Rated i es room (λ j k. (entered j (omega arith)).0)) in
    let k = count i es room in
    record { rated = omega (arith, b.rated); grams = omega (arith, b.grams.most) }

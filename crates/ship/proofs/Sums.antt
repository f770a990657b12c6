-- Sums over the engines that are used.
-- Assumes nothing.
use Prim.Native.Nat.{ℕ, zero, suc, ◌+◌, ◌≤◌, ◌<◌}
use mathlib.Core.Path.{◌≡◌, refl}
use mathlib.Core.Bool.{false}
use mathlib.Core.List.{List, [], ◌∷◌}
use native.Mathlib.Numerals.{add-one}
use native.Mathlib.Omega.{arith}
use lib.ListN.{length, get_or, take}
use Rattle.std.specs.Prelude.{map}
use Rattle.std.proofs.Math.Seq.{take-length}
use Rattle.std.proofs.lemmas.List.{get_or-take, length-take}
use Rattle.exact.specs.Index.{P_ME, sum_P_ME}
use Rattle.exact.specs.Ship as exact
use Rattle.exact.specs.Ranges.{Range, engines_at}
use Rattle.ship.specs.Record.{no_engine}
use Rattle.ship.specs.Figures.{engine_of, entry_at, mains}
use Rattle.ship.specs.Rules.{engine_refused}
use Rattle.ship.specs.declared.Engine.{Engine}

-- A sum F of f over a list of engines, over one engine more.
module _ (F : List (exact.Engine ℕ) → ℕ) (f : exact.Engine ℕ → ℕ) (none : F [] ≡ 0) (more : (e : exact.Engine ℕ) (es : List (exact.Engine ℕ)) → F (e ∷ es) ≡ f e + F es) (p : Range → ℕ) where
  pub sum_grows : (i : ℕ) (es : List Engine) → i < length es → F (engines_at p (mains (suc i) es)) ≡ F (engines_at p (mains i es)) + f (entry_at p (get_or es i no_engine))
  unfolding mains engines_at engine_of
  sum_grows i [] h = absurd (omega arith)
  sum_grows zero (e ∷ es) h = rw (more, none) (omega arith)
  sum_grows (suc i) (e ∷ es) h =
      omega (arith, sum_grows i es (omega arith), more (entry_at p e) (engines_at p (mains (suc i) es)), more (entry_at p e) (engines_at p (mains i es)))

pub sum_step : (i : ℕ) (es : List Engine) → i < length es → (p : Range → ℕ)
    → sum_P_ME (engines_at p (mains (i + 1) es)) ≡ sum_P_ME (engines_at p (mains i es)) + P_ME (entry_at p (get_or es i no_engine)).mcr (get_or es i no_engine).limit
unfolding sum_P_ME
sum_step i es h p = rw add-one (sum_grows sum_P_ME (λ e. P_ME e.mcr e.limit) refl (λ e es. refl) p i es h)

-- After the last engine they are those of all.
pub all_mains : (es : List Engine) → mains (length es) es ≡ map engine_of es
unfolding mains
all_mains es = rw (take-length es) refl

-- Of the entries that are used, at most four, what rule 9 says of each.
pub used_each : (n : ℕ) (es : List Engine) → n ≤ 4 → ((i : ℕ) → i < n → engine_refused (get_or es i no_engine) ≡ false)
    → (length (take n es) ≤ 4) × ((i : ℕ) → i < length (take n es) → engine_refused (get_or (take n es) i no_engine) ≡ false)
used_each n es four each =
    let room : length (take n es) ≤ n = omega (arith, length-take n es) in
    (omega (arith, four, room), λ i h. rw (get_or-take n es i no_engine (omega arith)) (each i (omega arith)))

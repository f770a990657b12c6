-- What the yard is promised of every slice of bytes. The functions of c/yagmurzol.h answer `found b` and its parts.
-- Assumes nothing.
use Prim.Native.Nat.{ℕ, ◌^◌, ◌≤◌, ◌<◌}
use mathlib.Core.Path.{◌≡◌, refl, sym, ap, ◌∙◌}
use mathlib.Core.List.{List, []}
use mathlib.Core.Logic.{◌⊎◌, ⊎_elim, ◌↔◌}
use native.Mathlib.Omega.{arith}
use lib.Dec.{T}
use lib.ListN.{length}
use lib.Ieee.{Float, binary64, fits}
use Rattle.std.specs.Prelude.{false, Option, None, Some, Ok, Err}
use Rattle.formula.specs.Formula.{◌//◌, Enclosed}
use Rattle.exact.specs.Ship.{Figures}
use Rattle.exact.specs.Ranges.{Inside}
use Rattle.exact.specs.Index.{index}
use Rattle.ship.specs.Figures.{figures}
use Rattle.ship.specs.declared.Refusal.{Refusal}
use Rattle.layout.specs.Layout.{ship_in}
use Rattle.block.specs.Answers.{read_refusal}
use Rattle.index.specs.declared.Index.{Index}
use Rattle.desk.specs.Answers.{Answer, answer_of_block, refusal_number, number_in, lower_in, upper_in}
use Rattle.desk.proofs.Answering as answering
use Rattle.desk.proofs.Demands as demands
use Rattle.hull.specs.Yard.{Exactly, found_of, found_in, found, empty_pair}
use Rattle.hull.specs.declared.Pair.{Pair}
use Rattle.hull.proofs.Doubles as doubles

pub bounds_of_small : {a : Answer} (i : Index) → Ok i ≡ a → (lower_in a < 2 ^ 53) × (upper_in a < 2 ^ 53) → (i.lower < 2 ^ 53) × (i.upper < 2 ^ 53)
bounds_of_small i e h = rw (sym e) at h

module _ (b : List ℕ) where
  pub numbered : number_in (answer_of_block b) ≡ refusal_number (read_refusal b)
  numbered = demands.block_number b (read_refusal b) (demands.block_first b)

  -- The bytes are those of an accepted record, or they are refused.
  pub either : (read_refusal b ≡ None) ⊎ ((r : Refusal) × (read_refusal b ≡ Some r))
  either = answering.either (read_refusal b)

  -- The same by the number that is found.
  pub refused_by : ((found b).refusal ≡ 0 → ⊥) → (r : Refusal) × (read_refusal b ≡ Some r)
  refused_by h = ⊎_elim (λ e. absurd (h (numbered ∙ ap refusal_number e))) (λ k. k) either

  -- Both bounds are below 2^53.
  pub small : ((found b).lower < 2 ^ 53) × ((found b).upper < 2 ^ 53)
  small =
      ⊎_elim
      (λ e. rw (demands.block_as_record b e) (demands.bounds_small (demands.block_record_accepted b e)))
      (λ k. rw (demands.block_refused b k.1) (omega arith, omega arith))
      either

  pub small_bounds : (i : Index) → Ok i ≡ answer_of_block b → (i.lower < 2 ^ 53) × (i.upper < 2 ^ 53)
  small_bounds i e = bounds_of_small i e small

  -- Each double is exactly the whole number found, and no other double is.
  pub exact : Exactly (found b).pair.lower (found b).lower
      × Exactly (found b).pair.upper (found b).upper
  exact = (doubles.exactly _ small.0, doubles.exactly _ small.1)

  pub exact_alone : (x : Float) → T (fits binary64 x)
      → (Exactly x (found b).lower → x ≡ (found b).pair.lower)
      × (Exactly x (found b).upper → x ≡ (found b).pair.upper)
  exact_alone x held = (doubles.only x _ small.0 held, doubles.only x _ small.1 held)

  -- With a refusal, that of the first rule broken, there is no bound.
  pub refused : ((found b).refusal ≡ 0 → ⊥) → found b ≡ found_of (refusal_number (read_refusal b)) 0 0
  refused h = let k = refused_by h in ap found_in (demands.block_refused b k.1) ∙ ap (λ r. found_of (refusal_number r) 0 0) (sym k.1)

  -- Without one the bytes are those of an accepted record, and the answer is hers.
  pub accepted : (found b).refusal ≡ 0 → read_refusal b ≡ None
  accepted h = answering.none (read_refusal b) (sym numbered ∙ h)

  -- Every ship inside her ranges has her exact index between the bounds; and the upper one is above 0.
  pub encloses : {f : Figures ℕ} → (found b).refusal ≡ 0 → Inside (figures (ship_in b)) f
      → Enclosed (index f) ((found b).lower // 1000000) ((found b).upper // 1000000)
  encloses h i = rw (demands.block_as_record b (accepted h)) (demands.inside (demands.block_record_accepted b (accepted h)) i)

  pub bounded : (found b).refusal ≡ 0 → 0 < (found b).upper
  bounded h = rw (demands.block_as_record b (accepted h)) (demands.bounds_some (demands.block_record_accepted b (accepted h)))

  -- So the bounds are in order: her most favourable ship is inside.
  pub ordered : (found b).lower ≤ (found b).upper
  ordered = ⊎_elim (λ e. between (numbered ∙ ap refusal_number e)) (λ k. rw (demands.block_refused b k.1) (omega arith)) either
    where
      between : (found b).refusal ≡ 0 → (found b).lower ≤ (found b).upper
      between h =
          let inside = (demands.records_inside (demands.ends_narrower false (demands.block_record_accepted b (accepted h)))).0 in
          demands.in_order (encloses h inside)

  -- The empty pair goes with a refusal, and only with one.
  pub empty_pair_refused : ((found b).refusal ≡ 0 → ⊥) ↔ (found b).pair ≡ empty_pair
  empty_pair_refused = (λ h. ap (λ r. r.pair) (refused h) ∙ ap zeros (sym doubles.zero_is), alone)
    where
      zeros : Float → Pair
      zeros z = record { lower = z; upper = z }

      alone : (found b).pair ≡ empty_pair → (found b).refusal ≡ 0 → ⊥
      alone e h = let z = doubles.zero_alone _ small.1 (ap (λ p. p.upper) e) in omega (arith, z, bounded h)

  refusal_1 : number_in (answer_of_block b) ≡ 1 → found b ≡ found_of 1 0 0
  refusal_1 one = refused (λ z. omega (arith, z, one)) ∙ ap (λ (n : ℕ). found_of n 0 0) (sym numbered ∙ one)

  -- Any length but that of a block is refusal 1.
  pub other_length : (length b ≡ 512 → ⊥) → found b ≡ found_of 1 0 0
  other_length h = refusal_1 (demands.not_512 b h)

-- So is no byte at all.
pub no_bytes : found [] ≡ found_of 1 0 0
no_bytes = refusal_1 [] (demands.not_512 [] (λ e. omega (arith, e)))

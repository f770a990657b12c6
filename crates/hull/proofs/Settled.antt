-- What the yard is promised of every slice of bytes in two steps. `yagmurzol_speeds` answers `found_speeds b`, `yagmurzol_index` with the
-- pairs most and least `found_index b most least`.
-- Assumes nothing.
use Prim.Native.Nat.{ℕ, ◌^◌, ◌≤◌, ◌<◌}
use mathlib.Core.Path.{◌≡◌, refl, sym, ap, ◌∙◌}
use mathlib.Core.List.{List}
use mathlib.Core.Logic.{⊎_elim}
use native.Mathlib.Omega.{arith}
use Rattle.std.specs.Prelude.{Option, None, Some, Ok, Err}
use Rattle.formula.specs.Formula.{◌//◌, Formula, Enclosed}
use Rattle.formula.proofs.Formulas.{consistent}
use Rattle.exact.specs.Ship.{Figures, declared}
use Rattle.exact.specs.Ranges.{Range, Inside, most_favourable, least_favourable}
use Rattle.exact.specs.Index.{speed}
use Rattle.ship.specs.Figures.{figures}
use Rattle.ship.specs.declared.Ship.{Ship}
use Rattle.layout.specs.Layout.{ship_in}
use Rattle.block.specs.Answers.{read_refusal}
use Rattle.propeller.specs.Propeller.{Speed}
use Rattle.index.specs.declared.SpeedBounds.{SpeedBounds}
use Rattle.desk.specs.Answers.{Answer, refusal_number, number_in, lower_in, upper_in, answer_of_block}
use Rattle.desk.specs.Steps.{own_speeds, speeds_answer_of_block, index_answer_of_block, no_speeds, speeds_in}
use Rattle.desk.proofs.Demands as demands
use Rattle.hull.specs.Yard.{found_of, found_in, found}
use Rattle.hull.specs.Settled.{knots_of, bounds_of, found_speeds_of, found_speeds_in, handed, found_speeds, found_index}
use Rattle.hull.specs.declared.Knots.{Knots}
use Rattle.hull.proofs.Yard as yard

-- A pair of bounds of a speed: in order, and at most 230 knots.
abbrev pub WithinKnots : Knots → Type 0
WithinKnots v = (v.lower ≤ v.upper) × (v.upper ≤ 230000000)

in_order : {e : Formula} {v : Knots} → Speed e (bounds_of v) → WithinKnots v
in_order {e} s = (omega (arith, (consistent e s.encloses.low s.encloses.high).cross), s.fast)

module _ (b : List ℕ) where
  -- The record of accepted bytes.
  abbrev S : Ship
  S = ship_in b

  known : read_refusal b ≡ None → speeds_answer_of_block b ≡ Ok (own_speeds S)
  known e = (demands.steps_as_record b e).0 ∙ demands.speed_settled S (demands.block_record_accepted b e).none

  -- The speed is refused where the index is, by the same number.
  pub same_refusal : (found_speeds b).refusal ≡ (found b).refusal
  same_refusal =
      ⊎_elim
      (λ e. ap number_in (known e) ∙ sym (yard.numbered b ∙ ap refusal_number e))
      (λ k. ap number_in (demands.steps_refused b k.1).0 ∙ sym (yard.numbered b ∙ ap refusal_number k.1))
      (yard.either b)

  -- With a refusal there is no bound.
  pub no_speed : ((found b).refusal ≡ 0 → ⊥) → found_speeds b ≡ found_speeds_of (refusal_number (read_refusal b)) no_speeds
  no_speed h =
      let k = yard.refused_by b h in
      ap found_speeds_in (demands.steps_refused b k.1).0 ∙ ap (λ r. found_speeds_of (refusal_number r) no_speeds) (sym k.1)

  -- Without one each pair encloses the exact speed of its own ship, and is as close as document 01 says.
  own_pairs : (found b).refusal ≡ 0 → handed (found_speeds b).most (found_speeds b).least ≡ own_speeds S
  own_pairs h = ap speeds_in (known (yard.accepted b h))

  pub most_speed : (found b).refusal ≡ 0 → Speed (speed (most_favourable (figures S))) (bounds_of (found_speeds b).most)
  most_speed h = rw (ap (λ v. v.most) (own_pairs h)) (demands.most_speed (demands.block_record_accepted b (yard.accepted b h)))

  pub least_speed : (found b).refusal ≡ 0 → Speed (speed (least_favourable (figures S))) (bounds_of (found_speeds b).least)
  least_speed h = rw (ap (λ v. v.least) (own_pairs h)) (demands.least_speed (demands.block_record_accepted b (yard.accepted b h)))

  -- With a declared speed every ship inside her ranges has a speed from the least favourable's lower to the most favourable's upper bound.
  pub speeds_inside : {f : Figures ℕ} {v : Range} → (found b).refusal ≡ 0 → (figures S).method ≡ declared v → Inside (figures S) f
      → Enclosed (speed f) ((found_speeds b).least.lower // 1000000) ((found_speeds b).most.upper // 1000000)
  speeds_inside h d i =
      rw (ap (λ v. v.least.lo) (own_pairs h), ap (λ v. v.most.hi) (own_pairs h))
      (demands.speeds_inside (demands.block_record_accepted b (yard.accepted b h)) d i)

  -- Bounds are in order, and none is above 230 knots.
  pub slow : WithinKnots (found_speeds b).most × WithinKnots (found_speeds b).least
  slow = ⊎_elim (λ e. let h = yard.numbered b ∙ ap refusal_number e in (in_order (most_speed h), in_order (least_speed h))) (λ k. rw (demands.steps_refused b k.1).0 (search arith)) (yard.either b)

  -- One step after the other gives what one call gives, a refusal too.
  pub one_after_the_other : found_index b (found_speeds b).most (found_speeds b).least ≡ found b
  one_after_the_other = ap found_in (⊎_elim settled (λ k. (demands.steps_refused b k.1).1 _ ∙ sym (demands.block_refused b k.1)) (yard.either b))
    where
      settled : read_refusal b ≡ None → index_answer_of_block b (handed (found_speeds b).most (found_speeds b).least) ≡ answer_of_block b
      settled e = rw (known e) (rw (known e) at (demands.one_after_the_other_block b))

  -- Other pairs are refused with 13, after every refusal of the bytes themselves.
  pub other_pairs : {most least : Knots} → (found b).refusal ≡ 0 → ((most ≡ (found_speeds b).most) × (least ≡ (found_speeds b).least) → ⊥) → found_index b most least ≡ found_of 13 0 0
  other_pairs {most} {least} h differ =
      let e = yard.accepted b h in
      ap found_in ((demands.steps_as_record b e).1 _ ∙ demands.index_other S (handed most least) (demands.block_record_accepted b e).none other)
    where
      other : handed most least ≡ own_speeds S → ⊥
      other k = let z = k ∙ sym (own_pairs h) in differ (ap (λ v. knots_of v.most) z, ap (λ v. knots_of v.least) z)

  pub refused_first : (most least : Knots) → ((found b).refusal ≡ 0 → ⊥) → found_index b most least ≡ found b
  refused_first most least h =
      let k = yard.refused_by b h in
      ap found_in ((demands.steps_refused b k.1).1 _ ∙ sym (demands.block_refused b k.1))

  -- Its bounds, where it has any, are those of one call, and so below 2^53.
  pub small_index : (v : SpeedBounds) → (lower_in (index_answer_of_block b v) < 2 ^ 53) × (upper_in (index_answer_of_block b v) < 2 ^ 53)
  small_index v = go (index_answer_of_block b v) refl
    where
      go : (a : Answer) → index_answer_of_block b v ≡ a → (lower_in a < 2 ^ 53) × (upper_in a < 2 ^ 53)
      go (Ok i) e = yard.small_bounds b i (sym (demands.no_other_index_block b v i e).1)
      go (Err r) e = (omega arith, omega arith)

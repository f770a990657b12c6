-- The laws of the bounds, of an accepted record. Assumes nothing.
use mathlib.Core.Path.{◌≡◌, sym, ap, ap₂, ◌∙◌}
use mathlib.Core.Bool.{Bool, true, false, not}
use Prim.Native.Nat.{ℕ, ◌+◌, ◌≤◌}
use native.Mathlib.Nat.{le_refl, le_antisymm}
use native.Mathlib.Omega.{arith}
use Rattle.exact.specs.Ship.{general, Method}
use Rattle.exact.specs.Ranges.{method_at, ship_at, most_favourable, least_favourable}
use Rattle.power.specs.declared.Bounds.{Bounds}
use Rattle.ship.specs.Accepted.{Shaped, AcceptedFigures}
use Rattle.ship.specs.Figures.{kind_of, deadweight_of, hull_of, range_of, method_of, figures}
use Rattle.ship.specs.declared.Range.{Range}
use Rattle.ship.specs.declared.Ship.{Ship}
use Rattle.ship.specs.declared.accepted.Accepted.{Accepted}
use Rattle.ship.proofs.Numbered.{method_end}
use Rattle.ship.proofs.Figured.{figures_accepted}
use Rattle.plant.specs.Plant.{end, at_end, main_N, auxiliary_N, load_of, P_ME_of, emitted_of}
use Rattle.plant.proofs.Growth.{emitting}
use Rattle.plant.specs.declared.Emitted.{Emitted}
use Rattle.factor.specs.Factor.{factor_by}
use Rattle.correction.specs.Correction.{Fast}
use Rattle.correction.proofs.Laws.{fast_of}
use Rattle.speed.specs.Speeds.{AcceptedSpeed, speed_by}
use Rattle.index.specs.Attained.{Sized, index_down, index_up, main_of, emitted, speed_of, factor_of, lower_of, upper_of, speeds_of}
use Rattle.index.specs.declared.SpeedBounds.{SpeedBounds}
use Rattle.index.proofs.Emissions.{main_order}
use Rattle.index.proofs.Laws.{speed_accepted, speed_is, sized_lower, sized_upper, ends_alike}

module _ (a : Accepted) where
  abbrev s : Ship
  s = a.ship

  pub of_record : AcceptedFigures (figures s)
  of_record = figures_accepted s a.entries.engines a.accepted

  -- What the speed asks at an end, and what it answers.
  abbrev method_at_end : Bool → Method ℕ
  method_at_end top = method_of s.particulars.method (end (not top) (range_of s.speed)) s.particulars.trial

  method_is : (top : Bool) → method_at (end (not top)) (method_of s.particulars.method (range_of s.speed) s.particulars.trial) ≡ method_at_end top
  method_is top = method_end (end (not top)) s.particulars.method (range_of s.speed) s.particulars.trial

  pub asked : (top : Bool) → AcceptedSpeed (method_at_end top) (kind_of s.particulars.kind) (deadweight_of s.particulars.deadweight) (P_ME_of (at_end top (figures s)))
  unfolding figures ship_at
  asked top = rw (method_is top) at (speed_accepted top of_record)

  pub answered : (top : Bool) → speed_by (method_at_end top) (kind_of s.particulars.kind) (deadweight_of s.particulars.deadweight) (P_ME_of (at_end top (figures s)))
      ≡ speed_of (at_end top (figures s))
  unfolding figures ship_at speed_of
  answered top = rw (method_is top)

  -- Where neither end differs, the two ships have one speed.
  pub one_speed : s.speed.low ≡ s.speed.high → P_ME_of (at_end false (figures s)) ≡ P_ME_of (at_end true (figures s))
      → speed_of (at_end false (figures s)) ≡ speed_of (at_end true (figures s))
  one_speed v p =
      sym (answered false)
      ∙ ap₂ (λ x P. speed_by (method_of s.particulars.method x s.particulars.trial) (kind_of s.particulars.kind) (deadweight_of s.particulars.deadweight) P) (sym v) p
      ∙ answered true

  -- What f_j asks: a speed, a hull that rule 18 shapes, and emissions that fit.
  pub own_speed : Fast (speed_of (most_favourable (figures s)))
  own_speed = fast_of (speed_is false of_record)

  pub own_hull : kind_of s.particulars.kind ≡ general → Shaped (hull_of s.particulars.build.hull)
  unfolding figures
  own_hull = of_record.hull

  pub main_small : (top : Bool) → main_N (at_end top (figures s)) ≤ 6000000000000000
  main_small top = omega (arith, (emitting top of_record).most)

  -- Of a general cargo ship the speed at both ends is one, so that one f_j serves both; of the others it doesn't count.
  same_main : (n : ℕ) → (main_of (figures s).ship.kind (speed_of (most_favourable (figures s))) (figures s).ship.hull n).hi
      ≡ (main_of (figures s).ship.kind (speed_of (least_favourable (figures s))) (figures s).ship.hull n).hi
  same_main n =
      let one : (figures s).ship.kind ≡ general → speed_of (most_favourable (figures s)) ≡ speed_of (least_favourable (figures s)) = λ k. ends_alike of_record (of_record.firm k) in
      le_antisymm (main_order (figures s).ship.kind (figures s).ship.hull one (le_refl n)).1 (main_order (figures s).ship.kind (figures s).ship.hull (λ k. sym (one k)) (le_refl n)).1

  -- The two bounds from their parts: m has the main engines' emissions with f_j.
  module _ {v : SpeedBounds} {c : Bounds} {n : Emitted} {m : Range} {l : ℕ} (own : v ≡ speeds_of (figures s))
      (factored : c ≡ factor_by (figures s).ship.kind (figures s).ship) (loaded : l ≡ load_of (figures s).ship) (sent : n ≡ emitted_of (figures s))
      (below : m.low ≡ (main_of (figures s).ship.kind v.most (figures s).ship.hull n.main.low).lo)
      (above : m.high ≡ (main_of (figures s).ship.kind v.most (figures s).ship.hull n.main.high).hi) where
    low_sum : m.low + n.auxiliary.low ≡ (emitted (most_favourable (figures s))).lo
    unfolding speeds_of emitted ship_at
    low_sum = rw (below, own, sent)

    high_sum : m.high + n.auxiliary.high ≡ (emitted (least_favourable (figures s))).hi
    unfolding speeds_of emitted ship_at
    high_sum = rw (above, own, sent) (ap (λ (x : ℕ). x + auxiliary_N (least_favourable (figures s))) (same_main _))

    pub lower_sized : Sized (m.low + n.auxiliary.low) l v.most.hi c.hi
    unfolding speeds_of factor_of ship_at
    lower_sized = rw (low_sum, own, factored, loaded) (sized_lower false of_record)

    pub upper_sized : Sized (m.high + n.auxiliary.high) l v.least.lo c.lo
    unfolding speeds_of factor_of ship_at
    upper_sized = rw (high_sum, own, factored, loaded) (sized_upper true of_record)

    pub lower_named : index_down (m.low + n.auxiliary.low) l v.most.hi c.hi ≡ lower_of (most_favourable (figures s))
    unfolding speeds_of factor_of ship_at lower_of
    lower_named = rw (low_sum, own, factored, loaded)

    pub upper_named : index_up (m.high + n.auxiliary.high) l v.least.lo c.lo ≡ upper_of (least_favourable (figures s))
    unfolding speeds_of factor_of ship_at upper_of
    upper_named = rw (high_sum, own, factored, loaded)

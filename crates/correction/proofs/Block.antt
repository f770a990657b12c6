-- 1/C_b: bounds on the formula. Assumes nothing.
use Prim.Native.Nat.{ℕ, ◌+◌, ◌*◌, ◌/◌, ◌^◌, ◌≤◌, ◌<◌}
use native.Mathlib.Nat.{mul-le-mul_right, suc-pred-eq_of_pos, le_trans, le_of_lt}
use native.Mathlib.Omega.{arith}
use lib.Dec.{lit≤}
use Rattle.formula.specs.Formula.{◌//◌, ◌≼◌, ◌·◌, Side, below, above, at_most, at_least, lit, ◌⊗◌, bounds, by_lit, by_product, by_quotient}
use Rattle.formula.proofs.Fractions.{lies_refl}
use Rattle.exact.specs.Ship.{Hull}
use Rattle.exact.specs.Index.{C_b}
use Rattle.number.specs.Division.{Floor}
use Rattle.number.proofs.Divisions.{floor_is, floor_greatest}
use Rattle.number.proofs.Gaps.{Gap}
use Rattle.ship.specs.Accepted.{Shaped}
use Rattle.correction.specs.Correction.{Spread, inverse_block}

module _ {h : Hull} (shaped : Shaped h) where
  box : (s : Side) → bounds s (lit (h.length // 100) ⊗ lit (h.breadth // 100) ⊗ lit (h.draught // 100)) (h.length // 100 · h.breadth // 100 · h.draught // 100)
  box s = by_product (by_product (by_lit (lies_refl s _)) (by_lit (lies_refl s _)) (lies_refl s _)) (by_lit (lies_refl s _)) (lies_refl s _)

  displaced : 0 < h.volume * 1000000
  displaced = omega (arith, shaped.volume.least)

  box_some : 0 < h.length * h.breadth * h.draught
  box_some = omega (arith, displaced, shaped.inside)

  above_from : (a : ℕ) → 0 < a → a * (h.volume * 1000000) ≤ h.length * h.breadth * h.draught * 16384 ^ 2 → bounds above (C_b h) ((2 ^ 28) // a)
  unfolding C_b
  above_from a pos x =
      let c : h.volume // 1 ≼ (2 ^ 28) // a · (h.length // 100 · h.breadth // 100 · h.draught // 100) = record { cross = rw (suc-pred-eq_of_pos pos) (omega arith) } in
      by_quotient (by_lit (lies_refl above _)) (box below) box_some (at_least c)

  below_from : (a : ℕ) → 0 < a → h.length * h.breadth * h.draught * 16384 ^ 2 ≤ a * (h.volume * 1000000) → bounds below (C_b h) ((2 ^ 28) // a)
  unfolding C_b
  below_from a pos x =
      let c : (2 ^ 28) // a · (h.length // 100 · h.breadth // 100 · h.draught // 100) ≼ h.volume // 1 = record { cross = rw (suc-pred-eq_of_pos pos) (omega arith) } in
      by_quotient (by_lit (lies_refl below _)) (box above) box_some (at_most c)

  floor : Floor (h.length * h.breadth * h.draught * 16384 ^ 2) (h.volume * 1000000) (h.length * h.breadth * h.draught * 16384 ^ 2 / (h.volume * 1000000))
  floor = floor_is _ _ displaced

  pub block_low : 2 ^ 28 ≤ inverse_block h
  unfolding inverse_block
  block_low =
      let x = floor_greatest floor (2 ^ 28) (omega (arith, shaped.inside)) in
      omega arith

  pub block_high : inverse_block h ≤ 12 * 2 ^ 28
  unfolding inverse_block
  block_high = omega arith

  pub block_above : bounds above (C_b h) ((2 ^ 28) // inverse_block h)
  unfolding inverse_block
  block_above = above_from (inverse_block h) (omega (arith, block_low)) (le_trans (mul-le-mul_right (h.volume * 1000000) (omega arith)) floor.at_most)

  pub block_below : inverse_block h < 12 * 2 ^ 28 → bounds below (C_b h) ((2 ^ 28) // (inverse_block h + 1))
  unfolding inverse_block
  block_below less = below_from (inverse_block h + 1) (omega arith) (le_trans (le_of_lt floor.next_above) (mul-le-mul_right (h.volume * 1000000) (omega arith)))

  pub block_spread : Spread (2 ^ 28) (inverse_block h) (inverse_block h + 1)
  block_spread =
      let low = block_low in
      let high = block_high in
      record { some = lit≤ tt; from_one = low; moderate = omega arith; small = omega arith; order = omega arith; near = omega arith }

  pub block_near : Gap (10 * 373) (inverse_block h) (inverse_block h + 1)
  block_near = record { gap = omega (arith, block_low) }

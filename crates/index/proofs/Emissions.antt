-- The main engines' emissions with f_j, of every type. Assumes nothing.
use Prim.Native.Nat.{ℕ, ◌*◌, ◌^◌, ◌≤◌, ◌<◌}
use mathlib.Core.Path.{◌≡◌, refl}
use native.Mathlib.Nat.{le_refl, le_trans, mul-le-mul, mul-le-mul_left, mul-le-mul_right}
use native.Mathlib.Omega.{arith}
use lib.Dec.{lit≤, lit<}
use Rattle.formula.specs.Formula.{◌//◌, Formula, ◌⊗◌, Enclosed}
use Rattle.formula.specs.Words.{whole}
use Rattle.exact.specs.Ship.{Kind, bulk, gas, tanker, container, refrigerated, combination, vehicle, general, Hull}
use Rattle.exact.specs.Index.{f_j}
use Rattle.formula.proofs.Formulas.{enclosed_wider, enclosed_lit, enclosed_product}
use Rattle.number.proofs.Divisions.{floor_greatest, ceil_least, floor_order, ceil_order}
use Rattle.number.proofs.Gaps.{Gap, gap_more}
use Rattle.number.proofs.Products.{scaled_floor, scaled_ceil, scaled_order}
use Rattle.power.specs.declared.Bounds.{Bounds}
use Rattle.ship.specs.Accepted.{Shaped}
use Rattle.propeller.specs.Propeller.{exactly, Speed}
use Rattle.correction.specs.Correction.{general_of}
use Rattle.correction.proofs.Laws.{fast_of, general_law, general_near, scaled_encloses, scaled_near}
use Rattle.index.specs.Attained.{main_of}

-- What may be used of n times f_j.
pub record Main (e : Formula) (n : ℕ) (r : Bounds) : Type 0 where
  pub encloses : Enclosed e (r.lo // 10000000) (r.hi // 10000000)
  pub near : Gap 5000000 r.lo r.hi
  pub order : r.lo ≤ r.hi
  pub some : 0 < r.lo
  pub most : r.hi ≤ n

-- The speed's ends are at most 2.1 millionths apart.
pub speed_gap : {e : Formula} {v : Bounds} → Speed e v → Gap 2100000 v.lo v.hi
speed_gap s = record { gap = omega (arith, s.near, s.slow) }

module _ {E : Formula} {n : ℕ} (exact : Enclosed E (n // 10000000) (n // 10000000)) (some : 51562500000 ≤ n) where
  -- f_j 1 changes nothing.
  unchanged : Main (whole 1 ⊗ E) n (exactly n)
  unchanged =
      record {
        encloses = enclosed_wider (enclosed_product (enclosed_lit (1 // 1)) exact) (omega arith) (omega arith);
        near = record { gap = omega arith };
        order = le_refl n;
        some = omega arith;
        most = le_refl n;
      }

  module _ {e : Formula} {v : Bounds} {h : Hull} (s : Speed e v) where
    with_factor : Shaped h → Main (f_j general e h ⊗ E) n (main_of general v h n)
    unfolding f_j main_of
    with_factor shaped =
        let law = general_law (fast_of s) shaped s.encloses in
        let f = general_of v h in
        let much : 24000000000 * 2 ^ 30 ≤ n * f.lo = le_trans (lit≤ tt) (mul-le-mul some law.low) in
        record {
          encloses = scaled_encloses n 10000000 f (lit< tt) exact law.encloses;
          near = gap_more (lit≤ tt) (scaled_near n f 24000000000 100 much (lit≤ tt) (general_near (fast_of s) shaped 210000 (lit≤ tt) (speed_gap s)));
          order = scaled_order n n f.lo f.hi (le_refl n) law.order;
          some = floor_greatest (scaled_floor n f.lo) 1 (le_trans (lit≤ tt) much);
          most = ceil_least (scaled_ceil n f.hi) n (mul-le-mul_left n law.high);
        }

    pub main_law : (kind : Kind) → (kind ≡ general → Shaped h) → Main (f_j kind e h ⊗ E) n (main_of kind v h n)
    unfolding f_j main_of
    main_law general shaped = with_factor (shaped refl)
    main_law bulk shaped = unchanged
    main_law gas shaped = unchanged
    main_law tanker shaped = unchanged
    main_law container shaped = unchanged
    main_law refrigerated shaped = unchanged
    main_law combination shaped = unchanged
    main_law vehicle shaped = unchanged

-- Of types 1 to 7 it is n.
pub main_exact : (kind : Kind) (v : Bounds) (h : Hull) (n : ℕ) → (kind ≡ general → ⊥) → main_of kind v h n ≡ exactly n
unfolding main_of
main_exact general v h n o = absurd (o refl)
main_exact bulk v h n o = refl
main_exact gas v h n o = refl
main_exact tanker v h n o = refl
main_exact container v h n o = refl
main_exact refrigerated v h n o = refl
main_exact combination v h n o = refl
main_exact vehicle v h n o = refl

-- More emissions at one speed are no less with f_j; of types 1 to 7 the speed doesn't count.
pub main_order : (kind : Kind) (h : Hull) {v v' : Bounds} {n n' : ℕ} → (kind ≡ general → v ≡ v') → n ≤ n'
    → ((main_of kind v h n).lo ≤ (main_of kind v' h n').lo) × ((main_of kind v h n).hi ≤ (main_of kind v' h n').hi)
unfolding main_of
main_order general h {v} {v'} {n} {n'} same k =
    rw (← same refl) (
      floor_order (mul-le-mul_right _ k) (le_refl _) (scaled_floor n (general_of v h).lo) (scaled_floor n' (general_of v h).lo),
      ceil_order (mul-le-mul_right _ k) (le_refl _) (scaled_ceil n (general_of v h).hi) (scaled_ceil n' (general_of v h).hi),
    )
main_order bulk h same k = (k, k)
main_order gas h same k = (k, k)
main_order tanker h same k = (k, k)
main_order container h same k = (k, k)
main_order refrigerated h same k = (k, k)
main_order combination h same k = (k, k)
main_order vehicle h same k = (k, k)

-- The shape that methods 2 to 4 share, in whole numbers: what its two ends are at most and at least, and how near they are.
-- Assumes nothing.
use mathlib.Core.Path.{◌≡◌, ap₂}
use Prim.Native.Nat.{ℕ, ◌+◌, ◌*◌, ◌/◌, ◌^◌, ◌≤◌, ◌<◌}
use native.Mathlib.Nat.{mul-le-mul_right, mul-le-mul_left, mul-le-mul, mul-pos, le_of_mul-le-mul_right, le_trans, one-le-pow, pow-le-pow_left}
use native.Mathlib.Omega.{arith}
use lib.Dec.{lit≤}
use Rattle.formula.proofs.Wholes.{mul_pow}
use Rattle.number.specs.Division.{Floor, Ceil, ceil_of}
use Rattle.number.specs.Ratio.{Moderate, CubeRoot, cube_root_of}
use Rattle.number.proofs.Divisions.{floor_is, ceil_is, floor_named, ceil_named, floor_cancel, ceil_cancel}
use Rattle.number.proofs.Gaps.{Gap, gap_product, gap_rounded}
use Rattle.number.proofs.Ratios.{cube_root_of_is, root_low, root_high, root_near, units_some}
use Rattle.power.specs.declared.Bounds.{Bounds}
use Rattle.propeller.specs.declared.Split.{Split}
use Rattle.propeller.specs.Propeller.{pair, Parted, speed_from}

-- ── How near the two ends are ───────────────────────────────────────────────────────────────

last : (lo hi : ℕ) → hi * 1000000000000 ≤ lo * 1000000991128 + 2000000991128 → hi * 1000000 ≤ lo * 1000000 + hi + 2000000
last lo hi h = omega arith

-- The base, the root and the divisor are at most 0.03, 0.953675 and 0.007451 millionths apart.
ends_near : {b b' r r' w w' lo hi : ℕ} (m : ℕ) → 0 < w * m → 0 < w' * m → Gap 30000 b b' → Gap 953675 r r' → Gap 7451 w w'
    → Floor (b * r * 2 ^ 30) (w' * m) lo → Ceil (b' * r' * 2 ^ 30) (w * m) hi → hi * 1000000 ≤ lo * 1000000 + hi + 2000000
ends_near {b} {b'} {r} {r'} {w} {w'} {lo} {hi} m pos pos' base root over f g =
    let all : Gap 991128 (b * r * w) (b' * r' * w') = gap_product 1 (lit≤ tt) (gap_product 1 (lit≤ tt) base root) over in
    let ends : Gap 991128 (b * r * 2 ^ 30 * (w * m)) (b' * r' * 2 ^ 30 * (w' * m)) = record { gap = omega (arith, mul-le-mul_right (2 ^ 30 * m) all.gap) } in
    last lo hi (gap_rounded pos pos' ends f g)

-- ── The product ─────────────────────────────────────────────────────────────────────────────

-- A multiple of a root that is known to s-ths, cubed; with the two sides exchanged, of its inverse.
cubed : (t k r s n d : ℕ) → 0 < s → t * s ≤ k * r → r ^ 3 * d ≤ n * s ^ 3 → t ^ 3 * d ≤ k ^ 3 * n
cubed t k r s n d pos h root =
    let up : t ^ 3 * s ^ 3 ≤ k ^ 3 * r ^ 3 = rw (← mul_pow t s 3, ← mul_pow k r 3) (pow-le-pow_left h 3) in
    le_of_mul-le-mul_right {k = s ^ 3} (omega (arith, mul-le-mul_right d up, mul-le-mul_left (k ^ 3) root)) (one-le-pow 3 s pos)

-- The two ends, in millionths of a knot, against base / over times the cube root of n / d.
pub record Product (s : Split) (n d : ℕ) (r : Bounds) : Type 0 where
  pub below : (r.lo * 1000 * s.over.hi) ^ 3 * d ≤ (s.base.lo * 2 ^ 30) ^ 3 * n
  pub above : (s.base.hi * 2 ^ 30) ^ 3 * n ≤ (r.hi * 1000 * s.over.lo) ^ 3 * d
  pub near : r.hi * 1000000 ≤ r.lo * 1000000 + r.hi + 2000000

module _ {s : Split} {n d : ℕ} (p : Parted s) (m : Moderate n d) where
  root : CubeRoot n d (cube_root_of n d).scale (cube_root_of n d).low (cube_root_of n d).high
  root = cube_root_of_is m

  pub scale_some : 0 < (cube_root_of n d).scale * 1000
  scale_some = omega (arith, units_some m.some root)

  over_some : 0 < s.over.lo * ((cube_root_of n d).scale * 1000)
  over_some = mul-pos (omega (arith, p.over_low)) scale_some

  over_some' : 0 < s.over.hi * ((cube_root_of n d).scale * 1000)
  over_some' = mul-pos (omega (arith, p.over_low, p.over_order)) scale_some

  pub low_product : s.base.lo * (cube_root_of n d).low ≤ 2 ^ 59
  low_product = mul-le-mul (le_trans p.order p.high) (le_trans (root_near m.some root).0 (root_high m.some root))

  pub high_product : s.base.hi * (cube_root_of n d).high ≤ 2 ^ 59
  high_product = mul-le-mul p.high (root_high m.some root)

  pub product_is : Product s n d (speed_from s n d)
  unfolding speed_from
  product_is = go _ _ (floor_is _ _ over_some') (ceil_is _ _ over_some)
    where
      go : (lo hi : ℕ) → Floor (s.base.lo * (cube_root_of n d).low * 2 ^ 30) (s.over.hi * ((cube_root_of n d).scale * 1000)) lo
          → Ceil (s.base.hi * (cube_root_of n d).high * 2 ^ 30) (s.over.lo * ((cube_root_of n d).scale * 1000)) hi
          → Product s n d (record { lo = lo; hi = hi })
      go lo hi f g =
          let u = units_some m.some root in
          let r : 0 < (cube_root_of n d).high = omega (arith, root_low m.some root, (root_near m.some root).0) in
          record {
            below = cubed (lo * 1000 * s.over.hi) (s.base.lo * 2 ^ 30) (cube_root_of n d).low (cube_root_of n d).scale n d u (omega (arith, f.at_most)) root.root.below;
            above = cubed (s.base.hi * 2 ^ 30) (hi * 1000 * s.over.lo) (cube_root_of n d).scale (cube_root_of n d).high d n r (omega (arith, g.at_least)) (omega (arith, root.root.above));
            near =
                ends_near ((cube_root_of n d).scale * 1000) over_some over_some' (omega (arith, p.near)) (omega (arith, (root_near m.some root).1, root_low m.some root))
                (omega (arith, p.over_near)) f g;
          }

  -- Where the powers are equal their root is 1, and base / over alone decides.
  pub at_one : n ≡ d → speed_from s n d ≡ pair (s.base.lo * 2 ^ 30 / (s.over.hi * 1000)) (ceil_of (s.base.hi * 2 ^ 30) (s.over.lo * 1000))
  unfolding speed_from
  at_one e = rw ((root.of_one e).0, (root.of_one e).1) (ap₂ pair low high)
    where
      u : ℕ
      u = (cube_root_of n d).scale

      low : s.base.lo * u * 2 ^ 30 / (s.over.hi * (u * 1000)) ≡ s.base.lo * 2 ^ 30 / (s.over.hi * 1000)
      low = floor_named (omega (arith, p.over_low, p.over_order)) (floor_cancel u (units_some m.some root) (omega arith) (omega arith) (floor_is _ _ over_some'))

      high : ceil_of (s.base.hi * u * 2 ^ 30) (s.over.lo * (u * 1000)) ≡ ceil_of (s.base.hi * 2 ^ 30) (s.over.lo * 1000)
      high = ceil_named (omega (arith, p.over_low)) (ceil_cancel u (units_some m.some root) (omega arith) (omega arith) (ceil_is _ _ over_some))

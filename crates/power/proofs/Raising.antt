-- The power of 2 from the table. Assumes nothing.
use mathlib.Core.Path.{◌≡◌}
use Prim.Native.Nat.{ℕ, ◌+◌, ◌*◌, ◌/◌, ◌%◌, ◌^◌, ◌≤◌, ◌<◌}
use native.Mathlib.Nat.{mul-le-mul, div-mul-le_self, lt-div-mul-add, le-div_iff_mul-le, mod-lt}
use native.Mathlib.Omega.{arith}
use lib.Dec.{lit≤}
use lib.ListN.{get_or}
use Rattle.power.specs.Table.{coarses, middles, fines}
use Rattle.power.specs.Steps.{times_of, slope, two_to}
use Rattle.power.proofs.Twos.{AtMost, AtLeast, most_mul, most_small}
use Rattle.power.proofs.Entries.{Factor, coarse_is, middle_is, fine_is, line_most, line_least}
use Rattle.power.proofs.Products.{grow_most, grow_least, Grown, entry_grown, times_grown}

times_low : (t d : ℕ) → 2 ^ 63 ≤ t → 2 ^ 63 ≤ d → 2 ^ 63 ≤ times_of t d
unfolding times_of
times_low t d h k =
    let a : 2 ^ 62 ≤ t * d / 2 ^ 64 = (le-div_iff_mul-le (lit≤ tt)).1 (mul-le-mul h k) in
    omega arith

-- t is at most 2^(e / 2^32) in units of 2^-63, and less by no more than the losses P/Q.
pub record Raised (P Q e t : ℕ) : Type 0 where
  pub low : 2 ^ 63 ≤ t
  pub most : AtMost t (2 ^ 63) e (2 ^ 32)
  pub least : AtLeast (t * P) (2 ^ 63 * Q) e (2 ^ 32)

abbrev pub lost : ℕ
lost = (2 ^ 61 + 1) ^ 5 * (2 ^ 30 + 1) * (2 ^ 61 + 1)

abbrev pub whole : ℕ
whole = (2 ^ 61) ^ 5 * 2 ^ 30 * 2 ^ 61

line_is : {e : ℕ} (u g : ℕ) → g < 2 ^ 17 → 2 ^ 63 ≤ u → Grown (2 ^ 63) e 5 u → Raised lost whole (e + g) (u + u * (g * slope) / 2 ^ 64)
line_is {e} u g small low r = go (g * slope) (line_most g) (line_least g small)
  where
    go : (x : ℕ) → AtMost (2 ^ 64 + x) (2 ^ 64) g (2 ^ 32) → AtLeast ((2 ^ 64 + x) * (2 ^ 30 + 1)) (2 ^ 64 * 2 ^ 30) g (2 ^ 32) → Raised lost whole (e + g) (u + u * x / 2 ^ 64)
    go x most least =
        let y = u + u * x / 2 ^ 64 in
        let z = 2 ^ 61 in
        let down : y * 2 ^ 64 ≤ u * (2 ^ 64 + x) = omega (arith, div-mul-le_self (u * x) (2 ^ 64)) in
        let up : u * (2 ^ 64 + x) ≤ (y + 2) * 2 ^ 64 = omega (arith, lt-div-mul-add {a = u * x} (lit≤ {m = 1} {n = 2 ^ 64} tt)) in
        let more : 2 ^ 63 ≤ y = omega arith in
        record {
          low = more;
          most = grow_most y (lit≤ tt) (lit≤ tt) down r.most most;
          least = grow_least u (2 ^ 64 + x) y (2 ^ 63) (2 ^ 64) ((z + 1) ^ 5) (z ^ 5) (2 ^ 30 + 1) (2 ^ 30) z (lit≤ tt) (lit≤ tt) (lit≤ tt) (lit≤ tt) up (omega arith) r.least least;
        }

-- ── The four parts of an exponent ───────────────────────────────────────────────────────────

module _ (f : ℕ) (small : f < 2 ^ 32) where
  parts : f / 2 ^ 27 * 2 ^ 27 + f / 2 ^ 22 % 32 * 2 ^ 22 + f / 2 ^ 17 % 32 * 2 ^ 17 + f % 2 ^ 17 ≡ f
  parts = omega arith

  coarse : Factor (f / 2 ^ 27 * 2 ^ 27) (get_or coarses (f / 2 ^ 27) 0)
  coarse = coarse_is (f / 2 ^ 27) (omega arith)

  middle : Factor (f / 2 ^ 22 % 32 * 2 ^ 22) (get_or middles (f / 2 ^ 22 % 32) 0)
  middle = middle_is (f / 2 ^ 22 % 32) (omega arith)

  fine : Factor (f / 2 ^ 17 % 32 * 2 ^ 17) (get_or fines (f / 2 ^ 17 % 32) 0)
  fine = fine_is (f / 2 ^ 17 % 32) (omega arith)

  first_low : 2 ^ 63 ≤ times_of (get_or coarses (f / 2 ^ 27) 0) (get_or middles (f / 2 ^ 22 % 32) 0)
  first_low = times_low _ _ coarse.low middle.low

  first_is : Grown (2 ^ 63) (f / 2 ^ 27 * 2 ^ 27 + f / 2 ^ 22 % 32 * 2 ^ 22) 3 (times_of (get_or coarses (f / 2 ^ 27) 0) (get_or middles (f / 2 ^ 22 % 32) 0))
  first_is = times_grown (lit≤ tt) (omega (arith, first_low)) (entry_grown coarse) middle

  second_is : Grown (2 ^ 63) (f / 2 ^ 27 * 2 ^ 27 + f / 2 ^ 22 % 32 * 2 ^ 22 + f / 2 ^ 17 % 32 * 2 ^ 17) 5
      (times_of (times_of (get_or coarses (f / 2 ^ 27) 0) (get_or middles (f / 2 ^ 22 % 32) 0)) (get_or fines (f / 2 ^ 17 % 32) 0))
  second_is = times_grown (lit≤ tt) (omega (arith, times_low _ _ first_low fine.low)) first_is fine

  pub two_to_is : Raised lost whole f (two_to f)
  unfolding two_to
  two_to_is = rw parts at (line_is _ (f % 2 ^ 17) (mod-lt f (lit≤ tt)) (times_low _ _ first_low fine.low) second_is)

  -- What the code multiplies and adds fits a word.
  pub first_fits : get_or coarses (f / 2 ^ 27) 0 * get_or middles (f / 2 ^ 22 % 32) 0 < 2 ^ 127
  first_fits = most_small (lit≤ tt) (omega arith) (most_mul coarse.most middle.most)

  pub second_fits : times_of (get_or coarses (f / 2 ^ 27) 0) (get_or middles (f / 2 ^ 22 % 32) 0) * get_or fines (f / 2 ^ 17 % 32) 0 < 2 ^ 127
  second_fits = most_small (lit≤ tt) (omega arith) (most_mul first_is.most fine.most)

  pub two_to_fits : two_to f < 2 ^ 64
  two_to_fits = most_small (lit≤ tt) small two_to_is.most

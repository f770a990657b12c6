-- A whole number below 2^53 as a double.
-- Assumes nothing.
use Prim.Native.Nat.{ℕ, ◌<◌, ◌^◌}
use mathlib.Core.Path.{◌≡◌, refl}
use mathlib.Core.Bool.{false}
use native.Mathlib.Nat.{le_of_lt}
use native.Mathlib.Omega.{arith}
use lib.Dec.{T, le→leb}
use lib.IntN.{pos}
use lib.Ieee.{Float, binary64, fits, of_int, in_float}
use lib.Ieee.Fits.{of_int-fits}
use lib.Ieee.Back.{round_whole, whole_unique}
use Rattle.hull.specs.Yard.{Exactly, as_double, zero_double}

-- It is exactly that number.
pub exactly : (n : ℕ) → n < 2 ^ 53 → Exactly (as_double n) n
unfolding Exactly as_double of_int
exactly n h = round_whole binary64 false n (le_of_lt h)

-- No other double is.
pub only : (x : Float) (n : ℕ) → n < 2 ^ 53 → T (fits binary64 x) → Exactly x n → x ≡ as_double n
unfolding Exactly as_double
only x n h held e = whole_unique binary64 x (of_int binary64 (pos n)) false n held (of_int-fits binary64 (pos n)) e (exactly n h)

-- The zero without a minus is 0, and no other number.
pub zero_is : zero_double ≡ as_double 0
unfolding Exactly fits
zero_is = only (zero_double) 0 (omega arith) tt (refl, refl)

pub zero_alone : (n : ℕ) → n < 2 ^ 53 → as_double n ≡ zero_double → n ≡ 0
unfolding Exactly
zero_alone n h e = let v = rw e at (exactly n h) in omega (arith, v.1)

-- The two ends of a power, from a power of 2 and the margin. Assumes nothing.
use mathlib.Core.Path.{◌≡◌, sym, ap, ◌∙◌}
use Prim.Native.Nat.{ℕ, ◌+◌, ◌*◌, ◌^◌, ◌≤◌, ◌<◌}
use native.Mathlib.Nat.{mul-le-mul_left, mul-le-mul_right, le_of_mul-le-mul_right}
use native.Mathlib.Omega.{arith}
use lib.Dec.{lit≤}
use lib.Pow.{pow-add, pow_mono}
use Rattle.power.specs.Steps.{with_margin}
use Rattle.power.specs.Power.{places, gap}
use Rattle.power.proofs.Twos.{AtMost, AtLeast, most_mul, least_mul, most_down, LeastUp, most_whole, least_whole}
use Rattle.power.proofs.Entries.{eight_least}
use Rattle.power.proofs.Raising.{Raised, lost, whole}

-- What the upper end is above the lower one, against all losses: less than 79 units of 2^-35.
margin_units : (lo : ℕ) → lo * (2 ^ 31 + 5) + 2 ^ 31 + 1 ≤ (with_margin lo).hi * 2 ^ 31
unfolding with_margin
margin_units lo = omega arith

upper : (lo hi : ℕ) → 2 ^ 30 ≤ lo → lo * (2 ^ 31 + 5) + 2 ^ 31 + 1 ≤ hi * 2 ^ 31 → (lo + 1) * (2 ^ 35 + 79) ≤ hi * 2 ^ 35
upper lo hi low h = omega arith

-- r / 2^j is lo and less than one more; x and y are 2^k and 2^j, whose product is 2^33.
over : (r x y lo hi P Q c d : ℕ) → r ≤ (lo + 1) * y → P * d ≤ Q * c → (lo + 1) * c ≤ hi * d → 0 < d → r * P * x ≤ hi * (Q * (x * y))
over r x y lo hi P Q c d h loss u pos =
    let a : r * P * x * d ≤ hi * (Q * (x * y)) * d =
    omega (arith, mul-le-mul_right (P * x * d) h, mul-le-mul_left ((lo + 1) * y * x) loss, mul-le-mul_right (Q * y * x) u) in
    le_of_mul-le-mul_right {k = d} a pos

lower_order : (lo r x y : ℕ) → lo * y ≤ r → x * y ≡ 2 ^ 33 → lo * (2 ^ 63 * 1) ≤ r * x * 2 ^ 30
lower_order lo r x y h e = omega (arith, mul-le-mul_right (x * 2 ^ 30) h, ap (λ (i : ℕ). lo * i) e)

upper_order : (r P x t hi Q s w : ℕ) → r * (P * t) * x ≤ hi * (Q * s * w) → w ≡ 2 ^ 33 → r * P * x * t * 2 ^ 30 ≤ hi * (2 ^ 63 * Q * 1 * s)
upper_order r P x t hi Q s w h e =
    let a : r * (P * t) * x ≤ hi * (Q * s * 2 ^ 33) = rw e at h in
    omega (arith, mul-le-mul_right (2 ^ 30) a)

-- Both ends hold for the exponent e, of a whole part k and a rest f.
module _ (e k j f r lo : ℕ) (e_is : f + k * 2 ^ 32 ≡ e) (sum : k + j ≡ places) (raised : Raised lost whole f r) (down : lo * 2 ^ j ≤ r) (up : r ≤ (lo + 1) * 2 ^ j) where
  halves : 2 ^ k * 2 ^ j ≡ 2 ^ 33
  halves = sym (pow-add 2 k j) ∙ ap (λ (i : ℕ). 2 ^ i) sum

  pub lower_holds : AtMost lo (2 ^ 30) e (2 ^ 32)
  lower_holds =
      let a : AtMost (r * 2 ^ k) (2 ^ 63 * 1) e (2 ^ 32) = rw (← e_is) (most_mul raised.most (most_whole k (2 ^ 32))) in
      most_down (lit≤ tt) (lower_order lo r (2 ^ k) (2 ^ j) down halves) a

  pub upper_holds : 2 ^ 30 ≤ lo → AtLeast (with_margin lo).hi (2 ^ 30) (e + 8) (2 ^ 32)
  upper_holds low =
      let hi = (with_margin lo).hi in
      let a = over r (2 ^ k) (2 ^ j) lo hi (lost * (2 ^ 34 + 23)) (whole * 2 ^ 34) (2 ^ 35 + 79) (2 ^ 35) up (lit≤ tt) (upper lo hi low (margin_units lo)) (lit≤ tt) in
      rw (← e_is) (LeastUp (lit≤ tt) (upper_order r lost (2 ^ k) (2 ^ 34 + 23) hi whole (2 ^ 34) (2 ^ k * 2 ^ j) a halves) (least_mul (least_mul raised.least (least_whole k (2 ^ 32))) eight_least))

-- The ends are near, and in their range.
pub near_ends : (lo : ℕ) → 2 ^ 30 ≤ lo → (with_margin lo).hi * gap ≤ (with_margin lo).lo * (gap + 1)
unfolding with_margin
near_ends lo low = omega arith

pub high_end : (lo : ℕ) → lo < 2 ^ 50 → (with_margin lo).hi ≤ 2 ^ 51
unfolding with_margin
high_end lo h = omega arith

pub order_ends : (lo : ℕ) → (with_margin lo).lo ≤ (with_margin lo).hi
unfolding with_margin
order_ends lo = omega arith

-- lo is r moved down by j places, of which there are 14 at least and 33 at most.
pub moved_high : (r j lo : ℕ) → lo * 2 ^ j ≤ r → r < 2 ^ 64 → 14 ≤ j → lo < 2 ^ 50
moved_high r j lo down h some =
    let a : lo * 2 ^ 14 ≤ lo * 2 ^ j = mul-le-mul_left lo (pow_mono some) in
    omega arith

pub moved_low : (r j lo : ℕ) → r < (lo + 1) * 2 ^ j → 2 ^ 63 ≤ r → j ≤ 33 → 2 ^ 30 ≤ lo
moved_low r j lo up h few =
    let a : (lo + 1) * 2 ^ j ≤ (lo + 1) * 2 ^ 33 = mul-le-mul_left (lo + 1) (pow_mono few) in
    omega arith

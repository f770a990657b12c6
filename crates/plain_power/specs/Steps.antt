-- The steps of a power, each by name: what every function of this crate answers. Its users need none of them, only the laws of `power_of`.
-- Assumes nothing.
use Rattle.std.specs.Prelude.{ℕ, zero, suc, ◌+◌, ◌-◌, ◌*◌, ◌/◌, ◌%◌, ◌^◌, eqb, ltb, leb}
use Rattle.formula.specs.Words.{if}
use Rattle.root.specs.Root.{root_of, greatest}
use Rattle.plain_power.specs.declared.Num.{Num}
use Rattle.plain_power.specs.declared.Pair.{Pair}
use Rattle.plain_power.specs.declared.Square.{Square}

abbrev pub one : Num
one = record { m = 2 ^ 30; e = 0 }

-- The number with one more in its mantissa.
abbrev pub next : Num → Num
next n = record { m = n.m + 1; e = n.e }

-- p * 2^e as n * 4^f, n rounded down to fewer than 63 bits. p is at most 2^62, and for 2^62 itself, which has 63, one less is taken.
unfoldable pub evened_of : (p e : ℕ) → Square
evened_of p e =
    let n = (p - p / 2 ^ 62) * 2 ^ (e % 2) in
    if (ltb n (2 ^ 62)) (record { n = n; f = e / 2 }) (record { n = n / 4; f = e / 2 + 1 })

-- The geometric mean, rounded down.
unfoldable pub mean_of : Num → Num → Num
mean_of a b = let s = evened_of (a.m * b.m) (a.e + b.e) in record { m = root_of 2 s.n; e = s.f }

unfoldable pub means_of : Pair → Pair → Pair
means_of p y = record { lo = mean_of p.lo y.lo; hi = next (mean_of p.hi y.hi) }

-- A digit's factor: 1 for the digit 0, and else x.
unfoldable pub digit_factor : Pair → ℕ → Pair
digit_factor x digit = if (eqb digit 0) (record { lo = one; hi = one }) x

-- The lowest binary digit, and the number that those above it make.
abbrev pub lowest : ℕ → ℕ
lowest d = d % 2

abbrev pub higher : ℕ → ℕ
higher d = d / 2

-- The digits of the exponent that are taken. With 35 what is left out is less than the rounding of the roots.
abbrev pub digits : ℕ
digits = 35

-- So many digits of p/q, as a whole number.
abbrev pub first_digits : (p q : ℕ) → ℕ
first_digits p q = p * 2 ^ digits / q

-- Before any digit is taken the power is from x^0 to x^1.
abbrev pub unraised : Pair → Pair
unraised x = record { lo = one; hi = x.hi }

-- p after so many digits of `rest`, from the lowest upwards: each leaves the means of its factor and the pair so far.
unfoldable pub raise_of : (x p : Pair) (rest left : ℕ) → Pair
raise_of x p rest zero = p
raise_of x p rest (suc left) = raise_of x (means_of p (digit_factor x (lowest rest))) (higher rest) left

-- v with its mantissa rounded down to 31 bits.
unfoldable pub cut_of : ℕ → Num
cut_of v = let e = greatest (λ e. leb (2 ^ (30 + e)) v) 20 in record { m = v / 2 ^ e; e = e }

unfoldable pub base_of : (a b : ℕ) → Pair
base_of a b = let n = cut_of (a * 2 ^ 30 / b) in record { lo = n; hi = next n }

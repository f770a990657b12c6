-- The numbers that a power is worked out in: m * 2^e in units of 2^-30. Assumes nothing.
use Rattle.std.specs.Prelude.{ℕ, ◌+◌, ◌*◌, ◌^◌, ◌≤◌}
use Rattle.plain_power.specs.declared.Num.{Num}
use Rattle.plain_power.specs.declared.Pair.{Pair}

abbrev pub val : Num → ℕ
val n = n.m * 2 ^ n.e

-- A number from 1 to 2^21, with a mantissa of 31 bits.
pub record Norm (n : Num) : Type 0 where
  pub low : 2 ^ 30 ≤ n.m
  pub high : n.m ≤ 2 ^ 31
  pub small : n.e ≤ 20

-- Two such numbers, the upper at most 2^-30 above the lower.
pub record Ready (x : Pair) : Type 0 where
  pub lo : Norm x.lo
  pub hi : Norm x.hi
  pub near : val x.hi * 2 ^ 30 ≤ val x.lo * (2 ^ 30 + 1)

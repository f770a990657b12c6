-- How long a line can be. Assumes nothing.
use Prim.Native.Nat.{ℕ, ◌^◌, ◌≤◌, ◌<◌}
use native.Mathlib.Omega.{arith}
use lib.ListN.{length, length-append}
use Rattle.decimal.proofs.Spelling.{width_limit}
use Rattle.line.specs.Line.{bounds_line, refusal_line, speeds_line}

-- Lines of 64-bit numbers have at most 84 bytes.
pub bounds_longest : (n imo lower upper : ℕ) → n < 2 ^ 64 → imo < 2 ^ 64 → lower < 2 ^ 64 → upper < 2 ^ 64
    → length (bounds_line n imo lower upper) ≤ 84
bounds_longest n imo lower upper h k l u =
    simp length-append (omega (arith, width_limit n h, width_limit imo k, width_limit lower l, width_limit upper u))

pub refusal_longest : (n r : ℕ) → n < 2 ^ 64 → r < 2 ^ 64 → length (refusal_line n r) ≤ 84
refusal_longest n r h k = simp length-append (omega (arith, width_limit n h, width_limit r k))

-- A line of speeds has two numbers more: at most 126 bytes.
pub speeds_longest : (n imo lower upper floor ceiling : ℕ) → n < 2 ^ 64 → imo < 2 ^ 64 → lower < 2 ^ 64 → upper < 2 ^ 64 → floor < 2 ^ 64 → ceiling < 2 ^ 64
    → length (speeds_line n imo lower upper floor ceiling) ≤ 126
speeds_longest n imo lower upper floor ceiling h k l u f c =
    simp length-append (omega (arith, width_limit n h, width_limit imo k, width_limit lower l, width_limit upper u, width_limit floor f, width_limit ceiling c))

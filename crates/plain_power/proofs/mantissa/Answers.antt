-- `plain_power::mantissa` meets its contract: one step of Newton's rule from anywhere is not below the root. Assumes nothing.
use Prim.Native.Nat.{ℕ, ◌+◌, ◌/◌, ◌^◌, ◌≤◌, ◌<◌}
use native.Mathlib.Nat.{mul-le-mul_left, div-mul-le_self, lt_of_not-le}
use native.Mathlib.Decide.{dec_le}
use native.Mathlib.Omega.{arith}
use Rattle.root.proofs.Newton.{newton_square}
use Rattle.plain_power.proofs.mantissa.Goals as goal

-- A start and its quotient are never both large.
step : (n near : ℕ) → n < 2 ^ 62 → 789000000 ≤ near → near < 2 ^ 32 → near + n / near < 2 ^ 33
step n near h from to =
    let whole = div-mul-le_self n near in
    elim (dec_le (2 ^ 31) near) [
      | yes big ↦ omega (arith, mul-le-mul_left (n / near) big)
      | no big ↦ omega (arith, lt_of_not-le big, mul-le-mul_left (n / near) from)
    ]

pub square_root_from-requires : goal.square_root_from-requires
square_root_from-requires c = (newton_square _ _ (omega arith), omega (arith, step _ _ c.requires.0 c.requires.1 c.requires.2))

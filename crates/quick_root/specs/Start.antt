-- Where the quick cube root starts. Assumes nothing.
use Rattle.std.specs.Prelude.{◌≡◌, ℕ, ◌+◌, ◌*◌, ◌/◌, ◌^◌, ◌<◌, ◌≤◌, min}
use Rattle.root.specs.Root.{root_of}

-- n, divided by 8 so often, falls below 1,024, and no sooner.
pub record Eighths (n k : ℕ) : Type 0 where
  pub enough : n < 1024 * 8 ^ k
  pub fewest : (j : ℕ) → n < 1024 * 8 ^ j → k ≤ j

-- n / 8^k is below the next whole number, whose root is an entry, in units of 1/1024; and a division by 8 halves the root. No root of 64 bits is
-- above 2642245.
unfoldable pub start_of : (n k : ℕ) → ℕ
start_of n k = min ((root_of 3 ((n / 8 ^ k + 1) * 2 ^ 30) + 1) * 2 ^ k / 1024) 2642245

-- x is the start for n.
pub record Start (n x : ℕ) : Type 0 where
  pub times : ℕ
  pub divided : Eighths n times
  pub is : x ≡ start_of n times

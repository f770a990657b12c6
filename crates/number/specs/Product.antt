-- Products with a fraction in units of 2^-30, by names that other crates keep shut: their laws (proofs/Products.antt) are all that they
-- use of them. Assumes nothing.
use Rattle.std.specs.Prelude.{ℕ, ◌*◌, ◌/◌, ◌^◌}
use Rattle.number.specs.Division.{ceil_of}

-- n times p / 2^30, rounded down and up.
unfoldable pub scaled_down : (n p : ℕ) → ℕ
scaled_down n p = n * p / 2 ^ 30

unfoldable pub scaled_up : (n p : ℕ) → ℕ
scaled_up n p = ceil_of (n * p) (2 ^ 30)

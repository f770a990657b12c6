-- The two check sums of bytes.
-- Assumes nothing.
use Rattle.std.specs.Prelude.{ℕ, ◌+◌, ◌%◌, List, [], ◌∷◌}
use Rattle.fields.specs.declared.Sums.{Sums}

-- For each byte A grows by the byte, then B by A; both sums run modulo 65,536.
unfoldable pub sums : ℕ → ℕ → List ℕ → Sums
sums a b [] = record { a = a; b = b }
sums a b (x ∷ xs) = sums ((a + x) % 65536) ((b + (a + x) % 65536) % 65536) xs

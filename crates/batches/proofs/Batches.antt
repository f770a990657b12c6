-- Laws of the batches.
-- Assumes nothing.
use Rattle.std.proofs.Common.{◌≡◌, ◌+◌, ◌%◌, ◌<◌, ℕ, Bool, true, false, ◌&&◌, Option, Some, None, refl, arith}
use Rattle.std.specs.Option.{option_map}
use borrow.Author.Tests.{ltb-true}
use lib.Dec.{ltb}
use Rattle.formula.specs.Words.{if}
use Rattle.batches.specs.declared.Batch.{Batch}
use Rattle.batches.specs.Batches.{batch_after, batch_if, Begun, Follows, Ended}

-- Where a batch follows one of the 512, it begins where that ends, and is one of them.
pub next_is : (b n : ℕ) → Follows b (Some n) → (n ≡ b + 128) × (n < 65536)
unfolding batch_after
next_is b n f = by_number (ltb (b + 128) 65536) refl f
  where
    by_number : (t : Bool) → ltb (b + 128) 65536 ≡ t → if t (Some (b + 128)) None ≡ Some n → (n ≡ b + 128) × (n < 65536)
    by_number true e q =
        let l = ltb-true (b + 128) 65536 e in
        let m : n ≡ b + 128 = cc in
        (m, omega arith)
    by_number false e q = cc

pub begun_next : (b n : ℕ) → Begun b → Follows b (Some n) → Begun n
begun_next b n h f =
    let next = next_is b n f in
    let k : b % 128 ≡ 0 = h.multiple in
    record { multiple = omega (arith, next.0); below = next.1 }

-- And after one of them there was one, and no more than 512.
pub ended_next : (b : ℕ) → Begun b → Ended (b + 128)
ended_next b h =
    let k : b % 128 ≡ 0 = h.multiple in
    let l : b < 65536 = h.below in
    record { multiple = omega arith; one = omega arith; most = omega arith }

-- What comes after a batch may follow it, and so may a stop where its lines were not written.
pub follows_step : (b : ℕ) (next : Option Batch) (going written : Bool) → option_map (λ n. n.first) next ≡ batch_after b going
    → Follows b (option_map (λ n. n.first) (batch_if next written))
unfolding batch_after
follows_step b next true true e = rw e (by_next (batch_after b true) refl)
  where
    by_next : (r : Option ℕ) → batch_after b true ≡ r → Follows b r
    by_next (Some n) t = t
    by_next None t = tt
follows_step b next false true e = rw e tt
follows_step b next going false e = tt

-- A program's batches: with which block each begins, and after which there is no other.
-- Assumes nothing.
use Rattle.std.specs.Prelude.{ℕ, ◌+◌, ◌%◌, ◌≤◌, ◌<◌, ◌≡◌, Bool, true, ◌&&◌, ltb, Option, Some, None, IfSome}
use Rattle.formula.specs.Words.{if}

-- Blocks are numbered from 0.
abbrev pub first_batch : ℕ
first_batch = 0

-- With which block the batch after the one from block b on begins; `going` is whether more may come, which it may only behind a full one, that
-- is 65,536 bytes. The numbers go on by 128, and no batch begins beyond block 65,535.
unfoldable pub batch_after : ℕ → Bool → Option ℕ
batch_after b going = if (going && ltb (b + 128) 65536) (Some (b + 128)) None

-- Batch n where the lines before it were written; otherwise none.
abbrev pub batch_if : {B : Type 0} → Option B → Bool → Option B
batch_if n written = if written n None

-- One of the 512 batches begins with block b: its 128 numbers are below 65,536.
pub record Begun (b : ℕ) : Type 0 where
  pub multiple : b % 128 ≡ 0
  pub below : b < 65536

-- What may follow the batch from block b on, whatever was read and written: its numbers go on, and there is a batch only where a full one has
-- one after it.
abbrev pub Follows : ℕ → Option ℕ → Type 0
Follows b r = IfSome r (λ n. batch_after b true ≡ Some n)

-- With which block the batch after the last would begin: there was one, and never more than 512.
pub record Ended (n : ℕ) : Type 0 where
  pub multiple : n % 128 ≡ 0
  pub one : 128 ≤ n
  pub most : n ≤ 65536

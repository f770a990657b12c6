-- How a program ends, and what comes after a batch.
-- Assumes nothing.
use Rattle.std.specs.Prelude.{ℕ, ◌+◌, ◌≡◌, true, false, Option, Some, None, Result, Ok, Err}
use Rattle.std.specs.declared.ops.ControlFlow.{ControlFlow}
use Rattle.std.specs.declared.ops.ControlFlow.TheVariants.{Continue, Break}
use Rattle.batches.specs.declared.Batch.{Batch}
use Rattle.streams.specs.declared.Got.{Got}
use Rattle.streams.specs.declared.Unsent.{Unsent}
use Rattle.streams.specs.declared.Unsent.TheVariants.{Closed, Failed}
use Rattle.streams.specs.Streams.{is_going}
use Rattle.batches.specs.Batches.{batch_after, batch_if, Follows, Ended}
use Rattle.program.specs.declared.Ending.{Ending}
use Rattle.program.specs.declared.Ending.TheVariants.{Done, Unread}

-- The exit status: 141 where nobody reads the lines any more.
abbrev pub status_of : Ending → ℕ
status_of (Done n) = 0
status_of (Unread n) = 141

abbrev pub HasEnded : Ending → Type 0
HasEnded (Done n) = Ended n
HasEnded (Unread n) = Ended n

-- The batch that begins with block n, or the end, behind which the next one would begin with block e.
abbrev pub next_or_end : ℕ → Option ℕ → ControlFlow Ending ℕ
next_or_end e (Some n) = Continue n
next_or_end e None = Break (Done e)

-- What comes after the batch from block b on, by what was read of it and how its lines were sent: a batch where more may come and they were
-- written, otherwise the end.
abbrev pub coming_of : ℕ → Got → Result (Unit {0}) Unsent → ControlFlow Ending ℕ
coming_of b got (Ok all) = next_or_end (b + 128) (batch_if (batch_after b (is_going got)) true)
coming_of b got (Err Failed) = next_or_end (b + 128) (batch_if (batch_after b (is_going got)) false)
coming_of b got (Err Closed) = Break (Unread (b + 128))

-- With which block a batch that comes begins.
abbrev pub first_in : ControlFlow Ending Batch → ControlFlow Ending ℕ
first_in (Continue next) = Continue next.first
first_in (Break e) = Break e

-- After the batch from block b on comes one that may follow it, or the end, which is where the next batch would begin.
abbrev pub Steps : ℕ → ControlFlow Ending Batch → Type 0
Steps b (Continue next) = Follows b (Some next.first)
Steps b (Break (Done n)) = n ≡ b + 128
Steps b (Break (Unread n)) = n ≡ b + 128

-- The batches' lines are together the file's, and depend on what was read alone.
-- Assumes nothing.
use Prim.Native.Nat.{ℕ, ◌+◌}
use mathlib.Core.Path.{◌≡◌, sym, ap, subst, ◌∙◌}
use mathlib.Core.List.{List, ◌++◌}
use mathlib.Core.Bool.{true}
use native.Mathlib.Omega.{arith}
use lib.ListN.{length, take}
use lib.Seq.{take-take, length-take-le}
use Rattle.std.specs.Prelude.{Option, Some, None, Result, Ok, Err}
use Rattle.streams.specs.declared.Got.{Got}
use Rattle.streams.specs.declared.Unsent.{Unsent}
use Rattle.streams.specs.declared.Unsent.TheVariants.{Closed, Failed}
use Rattle.streams.specs.declared.Rest.TheVariants.{Failure}
use Rattle.streams.specs.Streams.{Filled, is_going, answered_of}
use Rattle.streams.proofs.Reading.{answered_within, going_all}
use Rattle.lines.specs.Lines.{lines_of}
use Rattle.lines.proofs.Files.{lines_append}
use Rattle.std.specs.declared.ops.ControlFlow.{ControlFlow}
use Rattle.std.specs.declared.ops.ControlFlow.TheVariants.{Break, Continue}
use Rattle.batches.specs.declared.Batch.{Batch}
use Rattle.batches.specs.Batches.{batch_after, Begun, Ended}
use Rattle.batches.proofs.Batches.{next_is, ended_next, follows_step}
use Rattle.program.specs.declared.Ending.{Ending}
use Rattle.program.specs.declared.Ending.TheVariants.{Done, Unread}
use Rattle.program.specs.Endings.{next_or_end, first_in, coming_of, HasEnded, Steps}

-- Where the program goes on, the lines of what was read and of the batches after it are together the lines of the file.
pub batches_join : (line : ℕ → List ℕ → List ℕ) (first : ℕ) (g : Got) (blocks rest : List ℕ) → length blocks ≡ 65536 → Filled 65536 g → is_going g ≡ true
    → lines_of line first (take (answered_of g) blocks ++ rest)
    ≡ lines_of line first (take (answered_of g) blocks) ++ lines_of line (first + 128) rest
batches_join line first g blocks rest h f m =
    let e : answered_of g ≡ 65536 = going_all f m in
    let l : length (take (answered_of g) blocks) ≡ answered_of g = length-take-le (answered_of g) blocks (omega arith) in
    lines_append line first 128 (take (answered_of g) blocks) rest (omega arith)

-- And so they are where the batches after it begin with block n, as `batch_after` has it.
pub batches_follow : (line : ℕ → List ℕ → List ℕ) (first n : ℕ) (g : Got) (blocks rest : List ℕ) → length blocks ≡ 65536 → Filled 65536 g
    → is_going g ≡ true → batch_after first (is_going g) ≡ Some n
    → lines_of line first (take (answered_of g) blocks ++ rest)
    ≡ lines_of line first (take (answered_of g) blocks) ++ lines_of line n rest
batches_follow line first n g blocks rest h f m e =
    let next = next_is first n (subst (λ t. batch_after first t ≡ Some n) m e) in
    batches_join line first g blocks rest h f m ∙ ap (λ k. lines_of line first (take (answered_of g) blocks) ++ lines_of line k rest) (sym next.0)

-- A batch's lines depend on no byte of the buffer but those that were read.
pub read_alone : (line : ℕ → List ℕ → List ℕ) (first : ℕ) (g : Got) (x y : List ℕ) → take g.count x ≡ take g.count y
    → lines_of line first (take (answered_of g) x) ≡ lines_of line first (take (answered_of g) y)
read_alone line first g x y e =
    let h = answered_within g in
    ap (lines_of line first) (sym (take-take (answered_of g) g.count x h) ∙ ap (take (answered_of g)) e ∙ take-take (answered_of g) g.count y h)

-- After a read that failed there is no batch.
pub failed_last : (first : ℕ) (g : Got) → g.rest ≡ Failure → batch_after first (is_going g) ≡ None
unfolding batch_after
failed_last first g h = rw h

-- Which batch comes, or how a program ends.
next_in : (e n : ℕ) (o : Option ℕ) → Continue n ≡ next_or_end e o → o ≡ Some n
next_in e n (Some m) h = cc
next_in e n None h = cc

end_in : (e : ℕ) (x : Ending) (o : Option ℕ) → Break x ≡ next_or_end e o → x ≡ Done e
end_in e x (Some m) h = cc
end_in e x None h = cc

-- What comes after a batch may follow it; the end is where the next would begin.
pub steps_coming : (b : ℕ) (g : Got) (sent : Result (Unit {0}) Unsent) (r : ControlFlow Ending Batch) → first_in r ≡ coming_of b g sent → Steps b r
steps_coming b g (Ok all) (Continue next) h = follows_step b (Some next) (is_going g) true (sym (next_in _ _ _ h))
steps_coming b g (Err Failed) (Continue next) h = cc
steps_coming b g (Err Closed) (Continue next) h = cc
steps_coming b g (Ok all) (Break (Done n)) h = let e = end_in _ (Done n) _ h in cc
steps_coming b g (Err Failed) (Break (Done n)) h = cc
steps_coming b g (Err Closed) (Break (Done n)) h = cc
steps_coming b g (Ok all) (Break (Unread n)) h = let e = end_in _ (Unread n) _ h in cc
steps_coming b g (Err Failed) (Break (Unread n)) h = cc
steps_coming b g (Err Closed) (Break (Unread n)) h = cc

-- A program that ends behind one of the 512 batches has had one, and no more than 512.
pub ended_step : (b : ℕ) (e : Ending) → Begun b → Steps b (Break e) → HasEnded e
ended_step b (Done n) h e = subst Ended (sym e) (ended_next b h)
ended_step b (Unread n) h e = subst Ended (sym e) (ended_next b h)

-- `plain_power::evened` meets its contract. Assumes nothing.
use native.Mathlib.Nat.{mod-eq_of_lt}
use borrow.Author.Tests.{lt-ltb, le-ltb}
use Rattle.plain_power.specs.Steps.{evened_of}
use Rattle.plain_power.proofs.Squares.{shifted}
use Rattle.plain_power.proofs.evened.Goals as goal

pub returns-then-n-lt4611686018427387904 : goal.returns-then-n-lt4611686018427387904
unfolding evened_of
returns-then-n-lt4611686018427387904 c =
    let whole = mod-eq_of_lt (shifted _ c.args.e c.requires.1) in
    rw (whole, lt-ltb _ _ (rw whole at c.if-n-lt4611686018427387904.true))

pub returns-else-n-lt4611686018427387904 : goal.returns-else-n-lt4611686018427387904
unfolding evened_of
returns-else-n-lt4611686018427387904 c =
    let whole = mod-eq_of_lt (shifted _ c.args.e c.requires.1) in
    rw (whole, le-ltb _ _ (rw whole at c.if-n-lt4611686018427387904.false))

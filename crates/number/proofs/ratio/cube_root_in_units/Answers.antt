-- `number::ratio::cube_root_in_units` meets its contract. Assumes nothing.
use mathlib.Core.Path.{sym, ◌∙◌}
use Prim.Native.Nat.{◌^◌, ◌≤◌}
use native.Mathlib.Nat.{zero-lt-suc, lt_of_lt_of_le}
use lib.Dec.{lit≤}
use Rattle.formula.proofs.Wholes.{cube}
use Rattle.root.proofs.Roots.{square_fits, cube_fits, cube_root_small}
use Rattle.number.proofs.Divisions.{floor_divided, QuotientBelow}
use Rattle.number.proofs.Ratios.{ratio_root_exact, ratio_root_between}
use Rattle.number.proofs.ratio.cube_root_in_units.Goals as goal
use Rattle.number.proofs.ratio.cube_root_in_units.Goals.{After-cube_root-low}

pub returns-then-exact-clause-root : goal.returns-then-exact-clause-root
returns-then-exact-clause-root c =
    let at = c in
    ratio_root_exact (floor_divided at.divide_scaled-q.ensures) (c.rounded_up.ensures _ _ at.divide_scaled-q.ensures) c.cube_root-low.ensures
    (zero-lt-suc 2) at.requires.some (cube _ ∙ c.if-exact.true)

pub returns-else-exact-clause-root : goal.returns-else-exact-clause-root
returns-else-exact-clause-root c =
    let at = c in
    ratio_root_between (floor_divided at.divide_scaled-q.ensures) (c.rounded_up.ensures _ _ at.divide_scaled-q.ensures) c.cube_root-low.ensures
    (λ e. c.if-exact.false (sym (cube _) ∙ e))

small : (c : After-cube_root-low) → c.cube_root-low.result ≤ 2642245
small c =
    let at = c in
    cube_root_small (lt_of_lt_of_le (QuotientBelow (2 ^ 63) at.divide_scaled-q.ensures at.requires.quotient_fits) (lit≤ tt)) c.cube_root-low.ensures.at_most

pub overflow_mul-exact : goal.overflow_mul-exact
overflow_mul-exact c = record { fits = square_fits (small c) }

pub overflow_mul-exact-2 : goal.overflow_mul-exact-2
overflow_mul-exact-2 c = record { fits = cube_fits (small c) }

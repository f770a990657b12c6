-- The table's rule, computed once over all entries. Assumes nothing.
use mathlib.Core.Bool.{Bool}
use Prim.Native.Nat.{ℕ, ◌+◌, ◌*◌, ◌^◌, ◌<◌}
use lib.Dec.{T, leb, ltb, leb→le, ltb→lt}
use Rattle.formula.proofs.Tables.{both, both_left, both_right, at}
use Rattle.root.specs.Root.{Root}
use Rattle.root_table.specs.Table.{entries, entry_of}

root? : (n r : ℕ) → Bool
root? n r = both (leb (r ^ 3) n) (ltb n ((r + 1) ^ 3))

is_root : (n r : ℕ) → T (root? n r) → Root 3 n r
unfolding root?
is_root n r t =
    let low = leb (r ^ 3) n in
    let high = ltb n ((r + 1) ^ 3) in
    record { at_most = leb→le _ _ (both_left low high t); next_above = ltb→lt _ _ (both_right low high t) }

-- Entry i is the whole cube root of i times 2^30.
pub entry_root : (i : ℕ) → i < 1025 → Root 3 (i * 2 ^ 30) (entry_of i)
unfolding root? entries entry_of
entry_root i h = is_root (i * 2 ^ 30) (entry_of i) (at (λ i. root? (i * 2 ^ 30) (entry_of i)) 1025 tt i h)

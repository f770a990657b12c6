-- `index::between` meets its contract. Assumes nothing.
use Prim.Native.Nat.{ℕ}
use mathlib.Core.Path.{◌≡◌, ◌∙◌}
use borrow.Author.Tests.{eqb-true}
use Rattle.std.proofs.lemmas.Bool.{and_parts}
use Rattle.index.specs.Attained.{index_up}
use Rattle.index.proofs.between.Goals as goal

pub returns : goal.returns
returns c = record { lower_value = c.both-low.ensures.lower_value; upper_value = c.both-high.ensures.upper_value }

-- The same figures have the same bound.
same : (load : ℕ) {n n' v v' c c' : ℕ} → n ≡ n' → v ≡ v' → c' ≡ c → index_up n load v c ≡ index_up n' load v' c'
same load e f g = rw (e, f, g)

pub returns-then-n-most : goal.returns-then-n-most
returns-then-n-most c =
    let l = c in
    let k = and_parts _ _ c.if-n-most.true in
    let m = and_parts _ _ k.0 in
    record { lower_value = l.both-low.ensures.lower_value; upper_value = l.both-low.ensures.upper_value ∙ same _ (eqb-true _ _ m.0) (eqb-true _ _ m.1) (eqb-true _ _ k.1) }

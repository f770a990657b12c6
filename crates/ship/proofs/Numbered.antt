-- Types and speed methods by number: what is seen of each number of a list holds of every number within it.
-- Assumes nothing.
use Prim.Native.Nat.{ℕ, zero, suc, ◌-◌, ◌≤◌}
use mathlib.Core.Path.{◌≡◌, refl, sym, subst}
use mathlib.Core.Bool.{Bool, true, false}
use native.Mathlib.Omega.{arith}
use borrow.Author.Tests.{eqb-true, eqb-false}
use lib.Dec.{eqb}
use lib.ListN.{get_or}
use Rattle.exact.specs.Ship as exact
use Rattle.exact.specs.Ranges.{Range, Speeds, method_1, method_2, method_3, method_4, method_at}
use Rattle.ship.specs.Accepted.{Within}
use Rattle.ship.specs.Figures.{methods, method_of}
use Rattle.ship.specs.declared.Trial.{Trial}

abbrev pub Upto : (ℕ → Type 0) → ℕ → Type 0
Upto P zero = Unit {0}
Upto P (suc m) = Upto P m × P (suc m)

last_or : (P : ℕ → Type 0) (m n : ℕ) → P (suc m) → (n ≤ m → P n) → n ≤ suc m → P n
last_or P m n last rest h = go (eqb n (suc m)) refl
  where
    go : (t : Bool) → eqb n (suc m) ≡ t → P n
    go true e = subst P (sym (eqb-true n (suc m) e)) last
    go false e = let k = eqb-false n (suc m) e in rest (omega arith)

pub by_number : (P : ℕ → Type 0) (m : ℕ) → Upto P m → (n : ℕ) → Within 1 m n → P n
by_number P zero u n w = absurd (omega (arith, w.least, w.most))
by_number P (suc m) u n w = last_or P m n u.1 (λ h. by_number P m u.0 n (record { least = w.least; most = h })) w.most

-- ── Speed methods ───────────────────────────────────────────────────────────────────────────

-- A method at one end of its range.
pub method_end : (q : Range → ℕ) (m : ℕ) (r : Range) (t : Trial) → method_at q (method_of m r t) ≡ method_of m (q r) t
unfolding method_at method_of
method_end q m r t = go (m - 1)
  where
    go : (i : ℕ) → method_at q (get_or (methods r t) i exact.statistical) ≡ get_or (methods (q r) t) i exact.statistical
    go zero = refl
    go (suc zero) = refl
    go (suc (suc zero)) = refl
    go (suc (suc (suc zero))) = refl
    go (suc (suc (suc (suc i)))) = refl

-- Two methods of one number are alike where their speeds are.
pub speeds_alike : {N M : Type 0} {Q : N → M → Type 0} (m : ℕ) (v : N) (w : M) (t : Trial) → Q v w → Speeds Q (method_of m v t) (method_of m w t)
unfolding method_of
speeds_alike {Q = Q} m v w t h = go (m - 1)
  where
    go : (i : ℕ) → Speeds Q (get_or (methods v t) i exact.statistical) (get_or (methods w t) i exact.statistical)
    go zero = method_1 h
    go (suc zero) = method_2 h
    go (suc (suc zero)) = method_3 h
    go (suc (suc (suc zero))) = method_4
    go (suc (suc (suc (suc i)))) = method_4

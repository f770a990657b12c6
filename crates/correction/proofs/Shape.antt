-- The formula of f_j from bounds on its parts, for either side at once, and its cap. Assumes nothing.
use mathlib.Core.Path.{◌≡◌}
use Prim.Native.Nat.{ℕ, ◌*◌, ◌≤◌, ◌<◌, min}
use native.Mathlib.Nat.{mul-pos, suc-pred-eq_of_pos, mul-le-mul_right, lt_of_not-le}
use native.Mathlib.Decide.{dec_le}
use native.Mathlib.Omega.{arith}
use Rattle.formula.specs.Formula.{Frac, ◌//◌, ◌≼◌, ◌·◌, Side, below, above, other, lies, at_most, at_least, LiesPower, Formula, lit, ◌⊗◌, ◌⊘◌, smaller, ◌↑◌, bounds}
use Rattle.formula.specs.Formula.{by_lit, by_product, by_quotient, by_power, smaller_first, smaller_second, smaller_both}
use Rattle.formula.specs.Words.{whole}
use Rattle.formula.proofs.Fractions.{◌≈◌, lies_refl, lies-≈}
use Rattle.formula.proofs.Formulas.{closed}
use Rattle.formula.proofs.Powers.{inverse, power_inverse}
use Rattle.correction.proofs.Exponents.{power_froude}

-- ── The quotient ────────────────────────────────────────────────────────────────────────────

turned : {T : Formula} (s : Side) (a u : ℕ) (pos : 0 < a) → 0 < u → bounds s T (u // a) → bounds s T (inverse (a // u) pos)
turned s a u pos upos b =
    let same : inverse (a // u) pos ≈ u // a = record { cross = rw (suc-pred-eq_of_pos pos, suc-pred-eq_of_pos upos) } in
    closed (lies-≈ s same) b

over_product : {s : Side} {t g : Frac} (p q : Frac) (z : 0 < p.num) (z' : 0 < q.num) → lies s t (g · (p · q)) → lies s (t · (inverse p z · inverse q z')) g
over_product {t = t} {g} p q z z' (at_most h) =
    let c : t · (inverse p z · inverse q z') ≼ g = omega (arith, h.cross) in
    at_most c
over_product {t = t} {g} p q z z' (at_least h) =
    let c : g ≼ t · (inverse p z · inverse q z') = omega (arith, h.cross) in
    at_least c

-- g over the product of P and Q, which 1/p and 1/q bound.
quotient_of : {s : Side} {P Q : Formula} {t g : Frac} (p q : Frac) (z : 0 < p.num) (z' : 0 < q.num) → bounds (other s) P (inverse p z) → bounds (other s) Q (inverse q z')
    → lies s t (g · (p · q)) → bounds s (lit g ⊘ (P ⊗ Q)) t
quotient_of {s} p q z z' b c h = by_quotient (by_lit (lies_refl s _)) (by_product b c (lies_refl (other s) _)) (mul-pos p.pos q.pos) (over_product p q z z' h)

-- f_j before it is capped, where u / a bounds Fn and v / r bounds C_b; y / n and c / n bound the powers 3/10 of a / u and r / v.
pub formula_side : (s : Side) {F C : Formula} {t : Frac} (a u y r v c n : ℕ) → 0 < a → 0 < u → 0 < y → 0 < r → 0 < v → 0 < c
    → bounds (other s) F (u // a) → bounds (other s) C (v // r) → LiesPower s (y // n) (a // u) (3 // 10) → LiesPower s (c // n) (r // v) (3 // 10)
    → lies s t (174 // 1000 · (a // u · a // u · y // n · c // n)) → bounds s (lit (174 // 1000) ⊘ (F ↑ (23 // 10) ⊗ C ↑ (3 // 10))) t
formula_side s a u y r v c n apos upos ypos rpos vpos cpos bF bC pF pC h =
    let z : 0 < a * a * y = mul-pos (mul-pos apos apos) ypos in
    quotient_of (a // u · a // u · y // n) (c // n) z cpos
    (by_power (turned (other s) a u apos upos bF) (power_inverse s z apos (power_froude pF)))
    (by_power (turned (other s) r v rpos vpos bC) (power_inverse s cpos rpos pC))
    h

-- ── The cap at 1 ────────────────────────────────────────────────────────────────────────────

-- n is in units of 1 / u.
module _ {E : Formula} (n u : ℕ) (pos : 0 < u) where
  pub capped_below : bounds below E (n // u) → bounds below (smaller E (whole 1)) (min n u // u)
  capped_below b =
      let le : min n u * u ≤ n * u = mul-le-mul_right u (omega arith) in
      let c : min n u // u ≼ n // u = record { cross = rw (suc-pred-eq_of_pos pos) le } in
      let d : min n u // u ≼ 1 // 1 = record { cross = rw (suc-pred-eq_of_pos pos) (omega arith) } in
      smaller_both (closed (at_most c) b) (by_lit (at_most d))

  pub capped_above : (n < u → bounds above E (n // u)) → bounds above (smaller E (whole 1)) (min n u // u)
  capped_above b = elim (dec_le u n) [ yes l ↦ full (omega arith) | no l ↦ part (lt_of_not-le l) (omega (arith, lt_of_not-le l)) ]
    where
      full : min n u ≡ u → bounds above (smaller E (whole 1)) (min n u // u)
      full e =
          let d : 1 // 1 ≼ u // u = record { cross = rw (suc-pred-eq_of_pos pos) (omega arith) } in
          rw e (smaller_second (by_lit (at_least d)))

      part : n < u → min n u ≡ n → bounds above (smaller E (whole 1)) (min n u // u)
      part less e = rw e (smaller_first (b less))

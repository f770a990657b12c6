-- From whole numbers to bounds on the formula of a speed, for either side at once. Assumes nothing.
use Prim.Native.Nat.{ℕ, ◌*◌, ◌^◌, ◌≤◌, ◌<◌}
use native.Mathlib.Nat.{zero-lt-suc}
use native.Mathlib.Omega.{arith}
use lib.Dec.{lit<}
use Rattle.formula.specs.Formula.{Frac, ◌//◌, ◌≼◌, ◌·◌, ◌↥◌, Side, below, above, other, lies, at_most, at_least, Formula, lit, ◌⊗◌, ◌⊘◌, ◌↑◌, bounds, by_lit, by_product, by_quotient, by_power}
use Rattle.formula.proofs.Wholes.{pow_one, one_pow}
use Rattle.formula.proofs.Fractions.{lies_refl, over-≼}
use Rattle.formula.proofs.Formulas.{power_between}
use Rattle.formula.proofs.Powers.{power_above, power_third, up_below}
use Rattle.power.specs.declared.Bounds.{Bounds}
use Rattle.power.specs.Numbers.{unit}
use Rattle.power.specs.Power.{BoundsPower, Power}
use Rattle.power.proofs.Laws.{in_words, rescaled, inverted}
use Rattle.propeller.specs.declared.Split.{Split}
use Rattle.propeller.proofs.Products.{Product}

-- The end of a pair on a side.
abbrev pub at : Side → Bounds → ℕ
at below r = r.lo
at above r = r.hi

-- An order that a side turns.
abbrev pub Upto : Side → ℕ → ℕ → Type 0
Upto below a b = a ≤ b
Upto above a b = b ≤ a

pub some_at : {x : Bounds} → 0 < x.lo → x.lo ≤ x.hi → (s : Side) → 0 < at s x
some_at h o below = h
some_at h o above = omega arith

-- ── A power on either side ──────────────────────────────────────────────────────────────────

pub power_at : {a b p q : ℕ} {x : Bounds} → Power a b p q x → (s : Side) → BoundsPower s (at s x) unit a b p q
power_at w below = w.encloses_below
power_at w above = w.encloses_above

pub inverse_at : {a b p q : ℕ} {x : Bounds} → 0 < a → 0 < b → 0 < q → Power a b p q x → (s : Side) → BoundsPower s unit (at (other s) x) b a p q
inverse_at apos bpos qpos w below = inverted above _ unit _ _ _ _ (omega (arith, w.low, w.order)) (lit< tt) apos bpos qpos w.encloses_above
inverse_at apos bpos qpos w above = inverted below _ unit _ _ _ _ (omega (arith, w.low)) (lit< tt) apos bpos qpos w.encloses_below

-- What is farther out bounds it as well.
pub farther : (s : Side) (t u v k a b p q : ℕ) → 0 < k → 0 < u → Upto s (v * u) (t * k) → BoundsPower s t u a b p q → BoundsPower s v k a b p q
farther below t u v k a b p q pos pos' h = rescaled below t u v k a b p q (at_most (over-≼ v t pos pos' h))
farther above t u v k a b p q pos pos' h = rescaled above t u v k a b p q (at_least (over-≼ t v pos' pos h))

-- ── The cube root of a quotient ─────────────────────────────────────────────────────────────

-- B times the cube root of P / X, whose root is q.
pub shape : {s : Side} {B X : Formula} {P y x t : Frac} (q : Frac) → bounds s B y → bounds (other s) X x → 0 < x.num → lies s (q ↥ 3 · x) P → lies s t (y · q)
    → bounds s (B ⊗ (lit P ⊘ X) ↑ (1 // 3)) t
shape {s} q b x pos h k = by_product b (by_power (by_quotient (by_lit (lies_refl s _)) x pos h) (power_third s q)) k

-- The product's cubes, on either side: (t 1000 w)^3 d against (b 2^30)^3 n.
abbrev pub Cubes : Side → (t w b n d : ℕ) → Type 0
Cubes below t w b n d = (t * 1000 * w) ^ 3 * d ≤ (b * 2 ^ 30) ^ 3 * n
Cubes above t w b n d = (b * 2 ^ 30) ^ 3 * n ≤ (t * 1000 * w) ^ 3 * d

pub cubes : {p : Split} {n d : ℕ} {r : Bounds} → Product p n d r → (s : Side) → Cubes s (at s r) (at (other s) p.over) (at s p.base) n d
cubes x below = x.below
cubes x above = x.above

-- ── A power with a cap ──────────────────────────────────────────────────────────────────────

-- What is below b^(p/q), with b at most top, p/q at most 1/j and top at most m^j, is at most m.
pub capped_root : (t b p q j m top : ℕ) → 1 ≤ b → b ≤ top → 0 < q → 0 < j → p * j ≤ q → top ≤ m ^ j → BoundsPower below t unit b 1 p q → t ≤ unit * m
capped_root t b p q j m top from to qpos jpos small big h =
    let less : p // q ≼ 1 // j = over-≼ p 1 qpos jpos (omega arith) in
    let one : 1 // 1 ≼ b // 1 = omega arith in
    let up : b // 1 ≼ top // 1 = omega arith in
    let c : t // unit ≼ m // 1 = power_between (up_below less one (in_words t unit b 1 p q h)) (power_above m top 1 (zero-lt-suc 0) (zero-lt-suc 0) jpos (cap jpos)) up in
    omega (arith, c.cross)
  where
    cap : 0 < j → top ^ 1 * 1 ^ j ≤ m ^ j * 1 ^ 1
    cap pos = rw (pow_one top, one_pow j) (omega arith)

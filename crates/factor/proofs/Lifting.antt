-- f_l of a general cargo ship: the cranes' sum, and the pair that encloses the factor.
-- Assumes nothing.
use Prim.Native.Nat.{ℕ, zero, suc, ◌+◌, ◌*◌, ◌/◌, ◌^◌, ◌≤◌, ◌<◌}
use mathlib.Core.Path.{◌≡◌, refl}
use Rattle.std.specs.Prelude.{map}
use Rattle.std.specs.List.{All, sum_by}
use Rattle.std.proofs.lemmas.List.Sums.{sum_by-cons}
use mathlib.Core.List.{List, [], ◌∷◌}
use native.Mathlib.Nat.{mul-le-mul, suc-pred-eq_of_pos}
use native.Mathlib.Omega.{arith}
use lib.Dec.{lit<, lit≤}
use lib.ListN.{length, length-map}
use Rattle.formula.specs.Formula.{◌//◌, Formula, lit, ◌⊕◌, ◌⊘◌, Enclosed}
use Rattle.formula.specs.Words.{whole}
use Rattle.exact.specs.Ship.{Deadweight, Crane, general}
use Rattle.exact.specs.Index.{Capacity, crane_sum}
use Rattle.formula.proofs.Fractions.{over-≼}
use Rattle.formula.proofs.Formulas.{enclosed-≈, enclosed_wider, enclosed_lit, enclosed_sum, enclosed_product, enclosed_quotient}
use Rattle.number.specs.Division.{ceil_of, Divisible}
use Rattle.number.proofs.Divisions.{floor_is, ceil_is, floor_greatest, ceil_least, floor_ceil}
use Rattle.ship.specs.Figures.{crane_of}
use Rattle.ship.specs.Accepted.{Within, Each, no_more, one_more, Geared}
use Rattle.ship.specs.declared.Crane as entry
use Rattle.power.specs.Numbers.{unit}
use Rattle.factor.specs.Factor.{lifted_of, cranes_factor, Factored}

-- ── The sum ─────────────────────────────────────────────────────────────────────────────────

crane_sum_exact : (cs : List Crane) → Enclosed (crane_sum cs) (lifted_of cs // 1000000) (lifted_of cs // 1000000)
unfolding crane_sum lifted_of
crane_sum_exact [] = enclosed-≈ (enclosed_lit _) (omega arith)
crane_sum_exact (c ∷ cs) =
    enclosed-≈
    (enclosed_sum (enclosed_sum (enclosed_product (enclosed_product (enclosed_lit _) (enclosed_lit _)) (enclosed_lit _)) (enclosed_lit _)) (crane_sum_exact cs))
    (omega arith)

-- A crane has at most 1,000 t at 1,000 m.
pub lifted_most : {cs : List Crane} → Each Geared cs → lifted_of cs ≤ length cs * 51932110000
unfolding lifted_of
lifted_most no_more = omega arith
lifted_most (one_more {x = c} h hs) = omega (arith, mul-le-mul h.swl.most h.reach.most, lifted_most hs)

-- What an entry counts for, and the sum of all.
abbrev pub counted : entry.Crane → ℕ
counted c = lifted_of (crane_of c ∷ [])

pub lifted_sum : (cs : List entry.Crane) → sum_by counted cs ≡ lifted_of (map crane_of cs)
unfolding lifted_of
lifted_sum [] = refl
lifted_sum (c ∷ cs) = omega (arith, sum_by-cons counted c cs, lifted_sum cs)

each_geared : (cs : List entry.Crane) → All (λ c. Geared (crane_of c)) cs → Each Geared (map crane_of cs)
each_geared [] h = no_more
each_geared (c ∷ cs) h = one_more (h 0 c (omega arith)) (each_geared cs (λ k d l. h (suc k) d (omega arith)))

pub all_geared : (cs : List entry.Crane) → Each Geared (map crane_of cs) → All (λ c. Geared (crane_of c)) cs
all_geared [] h k d l = absurd (omega arith)
all_geared (c ∷ cs) (one_more g gs) zero d l = g
all_geared (c ∷ cs) (one_more g gs) (suc k) d l = all_geared cs gs k d (omega arith)

pub lifted_few : (cs : List entry.Crane) → length cs ≤ 8 → All (λ c. Geared (crane_of c)) cs → lifted_of (map crane_of cs) ≤ 415456880000
lifted_few cs few h = let n = length-map cs crane_of in omega (arith, lifted_most (each_geared cs h), n, few)

-- ── The factor ──────────────────────────────────────────────────────────────────────────────

-- Of t tonnes, with cranes that count for l.
module _ (t l : ℕ) (w : Within 100 600000 t) (few : l ≤ 415456880000) where
  abbrev capacity : ℕ
  capacity = t * 1000000

  some : 0 < capacity
  some = omega (arith, w.least)

  pub crane_divisible : Divisible (capacity + l) capacity 32768 2
  crane_divisible =
      record { some = some; based = lit< tt; narrow = lit≤ tt; moderate = omega (arith, w.most); quotient_fits = omega (arith, w.least) }

  pair_factored : {e : Formula} → Enclosed e ((capacity + l) // capacity) ((capacity + l) // capacity)
      → Factored e (record { lo = (capacity + l) * 32768 ^ 2 / capacity; hi = ceil_of ((capacity + l) * 32768 ^ 2) capacity })
  pair_factored x =
      let f = floor_is ((capacity + l) * 32768 ^ 2) capacity some in
      let g = ceil_is ((capacity + l) * 32768 ^ 2) capacity some in
      let both = floor_ceil f g in
      let low = floor_greatest f unit (omega arith) in
      record {
        encloses = enclosed_wider x (over-≼ _ _ {d = unit} {e = capacity} (lit< tt) some (omega (arith, f.at_most))) (over-≼ _ _ {d = capacity} {e = unit} some (lit< tt) (omega (arith, g.at_least)));
        near = omega (arith, both.1, low);
        low = low;
        order = both.0;
        high = ceil_least g (4156 * unit) (omega (arith, w.least));
      }

-- The whole factor is a fraction too.
cranes_exact : (dwt : Deadweight) (cs : List Crane) → Within 100 600000 dwt.tonnes → let d = dwt.tonnes * 1000000 in
    Enclosed (whole 1 ⊕ crane_sum cs ⊘ lit (Capacity general dwt // 100)) ((d + lifted_of cs) // d) ((d + lifted_of cs) // d)
unfolding Capacity
cranes_exact dwt cs w =
    let some : 0 < dwt.tonnes * 1000000 = omega (arith, w.least) in
    let more : 0 < 1000000 * (100 * dwt.tonnes) = omega (arith, w.least) in
    enclosed-≈
    (enclosed_sum (enclosed_lit (1 // 1)) (enclosed_quotient (crane_sum_exact cs) (enclosed_lit ((100 * dwt.tonnes) // 100)) (omega (arith, w.least))))
    (record { cross = rw (suc-pred-eq_of_pos some, suc-pred-eq_of_pos more) (omega arith) })

pub cranes_factored : (dwt : Deadweight) (cs : List Crane) → Within 100 600000 dwt.tonnes → Each Geared cs → length cs ≤ 8
    → Factored (whole 1 ⊕ crane_sum cs ⊘ lit (Capacity general dwt // 100)) (cranes_factor dwt cs)
unfolding cranes_factor
cranes_factored dwt cs w geared few =
    pair_factored dwt.tonnes (lifted_of cs) w (omega (arith, lifted_most geared, few)) (cranes_exact dwt cs w)

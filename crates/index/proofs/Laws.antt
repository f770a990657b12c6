-- The laws of the bounds of an index, for a ship at one end of accepted ranges. Assumes nothing.
use mathlib.Core.Path.{◌≡◌, refl, sym, ap, ap₂, ◌∙◌}
use mathlib.Core.Bool.{Bool, true, false, not}
use mathlib.Core.List.{List, [], ◌∷◌}
use Prim.Native.Nat.{ℕ, ◌+◌, ◌*◌, ◌^◌, ◌≤◌, ◌<◌}
use native.Mathlib.Nat.{add-le-add, mul-pos, mul-le-mul_left, mul-le-mul_right, suc-pred-eq_of_pos, le_trans, le_refl, lt_of_lt_of_le}
use native.Mathlib.Omega.{arith}
use lib.Dec.{lit<}
use Rattle.formula.specs.Formula.{Frac, ◌//◌, ◌≼◌, ◌·◌, Side, below, above, other, lies, at_most, at_least, Formula, ◌⊗◌, bounds, by_product, by_quotient, Enclosed}
use Rattle.exact.specs.Ship.{Deadweight, Kind, general, Engine, Method, declared, trial, design_trial, statistical, Figures}
use Rattle.exact.specs.Ranges.{Range, low, high, engines_at, method_at, ship_at, Single, Settled, Firm, alike, Inside, Narrowed, most_favourable, least_favourable}
use Rattle.formula.specs.Words.{whole}
use Rattle.exact.specs.Index.{P_ME, sum_P_ME, main_emission, f_c, f_j, speed, emissions, load, transport, index, SpeedAsRecorded, declaring, OnlyFractions}
use Rattle.formula.proofs.Fractions.{◌≈◌, lies_refl, lies-≈}
use Rattle.formula.proofs.Formulas.{consistent, enclosed_wider, enclosed_sum}
use Rattle.exact.proofs.Recorded.{as_recorded}
use Rattle.exact.proofs.Favour.{SingleEnd, low_single, high_single, method_end, method_firm, ship_inside, low_inside, high_inside}
use Rattle.number.proofs.Divisions.{floor_is, ceil_is, floor_greatest, ceil_least}
use Rattle.power.specs.declared.Bounds.{Bounds}
use Rattle.power.specs.Numbers.{unit}
use Rattle.ship.specs.Accepted.{Within, Sailed, AcceptedFigures}
use Rattle.plant.specs.Plant.{end, at_end, main_N, auxiliary_N, load_of}
use Rattle.plant.proofs.Values.{main_N_exact, auxiliary_N_exact, load_exact}
use Rattle.plant.proofs.Growth.{end_within, emitting, main_inside, auxiliary_inside, load_within}
use Rattle.factor.proofs.Laws.{Follows, factor_law}
use Rattle.propeller.specs.Propeller.{exactly, Speed}
use Rattle.speed.specs.Speeds.{Fitting, AcceptedSpeed, speed_by}
use Rattle.speed.proofs.Laws.{declared_exact, recorded_exact, speed_law}
use Rattle.propeller.proofs.Sides.{at}
use Rattle.index.specs.Attained.{millionths_down, millionths_up, Sized, main_of, emitted, Emission, speed_of, factor_of, lower_of, upper_of}
use Rattle.index.proofs.Emissions.{Main, main_law, main_exact, main_order}
use Rattle.index.proofs.Rounding.{lower_floor, upper_ceil, upper_small, upper_some, lower_order, upper_order, bounds_near}

-- An enclosure on one side.
side : {e : Formula} (b : Bounds) (k : ℕ) → Enclosed e (b.lo // k) (b.hi // k) → (s : Side) → bounds s e (at s b // k)
side b k h below = h.low
side b k h above = h.high

-- ── What the rules leave of the speed ───────────────────────────────────────────────────────

-- Where no rated power is a range, the sum of P_ME is the same at both ends.
pub same_power : (top : Bool) (es : List (Engine Range)) → Single es → sum_P_ME (engines_at low es) ≡ sum_P_ME (engines_at (end top) es)
unfolding engines_at sum_P_ME Single
same_power top [] s = refl
same_power false (e ∷ es) s = refl
same_power true (e ∷ es) s = ap₂ (λ x y. P_ME x e.limit + y) s.0 (same_power true es s.1)

module _ (top : Bool) {r : Figures Range} (a : AcceptedFigures r) where
  power_within : Within 7500 36000000 (sum_P_ME (engines_at (end top) r.engines))
  power_within = go top
    where
      go : (top : Bool) → Within 7500 36000000 (sum_P_ME (engines_at (end top) r.engines))
      go true = a.power_high
      go false = a.power_low

  fitting : (m : Method Range) → Sailed m r.ship.kind r.ship.deadweight (sum_P_ME (engines_at low r.engines)) → Settled m r.engines
      → Fitting (method_at (end (not top)) m) r.ship.kind r.ship.deadweight (sum_P_ME (engines_at (end top) r.engines))
  unfolding method_at Settled
  fitting (declared v) h s = end_within (not top) h
  fitting (trial v kW) h s = rw (← same_power top r.engines s.1) (end_within (not top) h.speed, h.power, h.near)
  fitting (design_trial v kW tested) h s =
      rw (← same_power top r.engines s.1) (end_within (not top) h.0.speed, h.0.power, h.0.near, h.1, h.2)
  fitting statistical h s = tt

  pub speed_accepted : AcceptedSpeed (method_at (end (not top)) r.method) r.ship.kind r.ship.deadweight (sum_P_ME (engines_at (end top) r.engines))
  speed_accepted = record { deadweight = a.deadweight; power = power_within; method = fitting r.method a.method a.settled }

  -- ── The parts ─────────────────────────────────────────────────────────────────────────────

  -- The ship at that end, its emissions, load, speed and f_c.
  abbrev ship : Figures ℕ
  ship = at_end top r

  abbrev n : Bounds
  n = emitted (at_end top r)

  abbrev L : ℕ
  L = load_of r.ship

  abbrev v : Bounds
  v = speed_of (at_end top r)

  abbrev c : Bounds
  c = factor_of (at_end top r)

  pub speed_is : Speed (speed (at_end top r)) (speed_of (at_end top r))
  unfolding ship_at speed speed_of
  speed_is = speed_law _ _ _ _ speed_accepted

  -- With f_j, which takes the speed's pair.
  main_is : Main (f_j r.ship.kind (speed (at_end top r)) r.ship.hull ⊗ main_emission (at_end top r).engines) (main_N (at_end top r))
      (main_of r.ship.kind (speed_of (at_end top r)) r.ship.hull (main_N (at_end top r)))
  unfolding ship_at
  main_is = main_law (main_N_exact (at_end top r)) (emitting top a).some speed_is r.ship.kind a.hull

  pub emission_is : Emission (emissions (at_end top r)) (emitted (at_end top r))
  unfolding emissions emitted ship_at
  emission_is =
      let m = main_is in
      record {
        encloses = enclosed_wider (enclosed_sum m.encloses (auxiliary_N_exact (at_end top r))) (omega arith) (omega arith);
        near = omega (arith, m.near.gap);
        order = omega (arith, m.order);
        some = omega (arith, m.some);
        most = omega (arith, m.most, (emitting top a).most);
      }

  pub factor_is : Follows r.ship.kind r.ship (factor_of (at_end top r))
  unfolding ship_at factor_of
  factor_is = factor_law a

  speed_order : v.lo ≤ v.hi
  speed_order =
      let h : v.lo // 1000000 ≼ v.hi // 1000000 = consistent _ speed_is.encloses.low speed_is.encloses.high in
      omega (arith, h.cross)

  moving : (s : Side) → Within 1900000 230000000 (at s v)
  moving below = record { least = speed_is.slow; most = le_trans speed_order speed_is.fast }
  moving above = record { least = le_trans speed_is.slow speed_order; most = speed_is.fast }

  factored : (s : Side) → Within (2 ^ 30) (4156 * 2 ^ 30) (at s c)
  factored below = let h = factor_is.factored in record { least = h.low; most = le_trans h.order h.high }
  factored above = let h = factor_is.factored in record { least = le_trans h.low h.order; most = h.high }

  small_emission : (s : Side) → at s n ≤ 6000000000000000
  small_emission below = le_trans emission_is.order emission_is.most
  small_emission above = emission_is.most

  loaded : Within 700000 6468000000 L
  loaded = load_within r.ship a.deadweight a.lightweight

  -- From the emissions on one side and the divisor on the other.
  sized : (s : Side) → Sized (at s n) L (at (other s) v) (at (other s) c)
  sized s = record { emitted = small_emission s; loaded = loaded; moving = moving (other s); factored = factored (other s) }

  pub sized_lower : Sized (emitted (at_end top r)).lo (load_of r.ship) (speed_of (at_end top r)).hi (factor_of (at_end top r)).hi
  sized_lower = sized below

  pub sized_upper : Sized (emitted (at_end top r)).hi (load_of r.ship) (speed_of (at_end top r)).lo (factor_of (at_end top r)).lo
  sized_upper = sized above

  -- ── Demand 2 ──────────────────────────────────────────────────────────────────────────────

  -- Tonnes times miles an hour, from f_c in 2^-30 and the speed in 10^-6 knot.
  moved : (c v : ℕ) → Frac
  moved c v = c // unit · L // 10000 · v // 1000000

  load_side : (s : Side) → bounds s (load r.ship) (L // 10000)
  load_side below = (load_exact r.ship (omega (arith, a.deadweight.least))).low
  load_side above = (load_exact r.ship (omega (arith, a.deadweight.least))).high

  transport_side : (s : Side) → bounds s (transport (at_end top r)) (moved (at s c) (at s v))
  unfolding ship_at transport moved
  transport_side s =
      by_product (by_product (side c unit factor_is.factored.encloses s) (load_side s) (lies_refl s _)) (side v 1000000 speed_is.encloses s) (lies_refl s _)

  moved_some : (s : Side) → 0 < (moved (at s c) (at s v)).num
  unfolding moved
  moved_some s =
      let l : 0 < L = omega (arith, loaded.least) in
      let k : 0 < at s c * at s v = mul-pos (omega (arith, (factored s).least)) (omega (arith, (moving s).least)) in
      omega (arith, mul-pos l k)

  -- The index on one side, from the other side of what it is divided by.
  index_side : (s : Side) (y : Frac) → lies s (y · moved (at (other s) c) (at (other s) v)) (at s n // 10000000) → bounds s (index (at_end top r)) y
  unfolding index
  index_side s y h = by_quotient (side n 10000000 emission_is.encloses s) (transport_side (other s)) (moved_some (other s)) h

  -- In whole numbers: t L v F is at most n 10^15, and F millionths at least c.
  under : (t n v c F : ℕ) → t * (L * v * F) ≤ n * 10 ^ 15 → c * 1000000 ≤ F * unit → t // 1000000 · moved c v ≼ n // 10000000
  unfolding moved
  under t n v c F h g = record { cross = omega (arith, mul-le-mul_left (t * (L * v)) g) }

  over : (t n v c F : ℕ) → n * 10 ^ 15 ≤ t * (L * v * F) → F * unit ≤ c * 1000000 → n // 10000000 ≼ t // 1000000 · moved c v
  unfolding moved
  over t n v c F h g = record { cross = omega (arith, mul-le-mul_left (t * (L * v)) g) }

  pub encloses : Enclosed (index (at_end top r)) (lower_of (at_end top r) // 1000000) (upper_of (at_end top r) // 1000000)
  unfolding lower_of upper_of ship_at
  encloses =
      record {
        low = index_side below _ (at_most
            (under (lower_of ship) n.lo v.hi c.hi (millionths_up c.hi) (lower_floor sized_lower).at_most (ceil_is (c.hi * 1000000) (2 ^ 30) (lit< tt)).at_least));
        high = index_side above _ (at_least
            (over (upper_of ship) n.hi v.lo c.lo (millionths_down c.lo) (upper_ceil sized_upper).at_least (floor_is (c.lo * 1000000) (2 ^ 30) (lit< tt)).at_most));
      }

  pub near : upper_of (at_end top r) * 100000 ≤ lower_of (at_end top r) * 100000 + upper_of (at_end top r) + 200000
  unfolding lower_of upper_of ship_at
  near = bounds_near sized_upper sized_lower emission_is.near speed_is.near factor_is.factored.near

  pub small : upper_of (at_end top r) < 2 ^ 53
  unfolding upper_of ship_at
  small = upper_small sized_upper

  pub some : 0 < upper_of (at_end top r)
  unfolding upper_of ship_at
  some = upper_some sized_upper (lt_of_lt_of_le emission_is.some emission_is.order)

  -- ── Where only fractions enter ────────────────────────────────────────────────────────────

  -- Where every power in the speed is one of 1 it is the one recorded, and so are both its bounds.
  pub speed_exactly : {w : ℕ} → SpeedAsRecorded (at_end top r) w → Enclosed (speed (at_end top r)) (w // 100) (w // 100)
  unfolding ship_at speed
  speed_exactly = as_recorded (omega (arith, power_within.least)) (omega (arith, a.deadweight.least))

  pub speed_recorded : {w : ℕ} → SpeedAsRecorded (at_end top r) w → speed_of (at_end top r) ≡ exactly (w * 10000)
  unfolding ship_at speed_of
  speed_recorded = recorded_exact speed_accepted

  -- There the bounds are the exact index rounded down and up: no whole number of millionths that lies below the index is above the lower bound, and
  -- none that lies above it is below the upper one.
  module _ (only : OnlyFractions (at_end top r)) where
    knots : ℕ
    knots = only.v * 10000

    other_type : r.ship.kind ≡ general → ⊥
    unfolding ship_at
    other_type = only.not_general

    light : f_c r.ship.kind r.ship ≡ whole 1
    unfolding ship_at
    light = only.full

    speed_exact : speed_of (at_end top r) ≡ exactly knots
    unfolding knots
    speed_exact = speed_recorded only.speed

    at_speed : (s : Side) → at s v ≡ knots
    at_speed below = ap (at below) speed_exact
    at_speed above = ap (at above) speed_exact

    at_factor : (s : Side) → at s c ≡ unit
    at_factor below = ap (at below) (factor_is.one_where other_type light)
    at_factor above = ap (at above) (factor_is.one_where other_type light)

    N : ℕ
    N = main_N ship + auxiliary_N ship

    at_emission : (s : Side) → at s n ≡ N
    unfolding emitted ship_at N
    at_emission below = rw (main_exact r.ship.kind v r.ship.hull (main_N ship) other_type)
    at_emission above = rw (main_exact r.ship.kind v r.ship.hull (main_N ship) other_type)

    work_some : 0 < L * knots
    work_some =
        let k : 0 < v.lo = omega (arith, speed_is.slow) in
        mul-pos (omega (arith, loaded.least)) (rw (at_speed below) at k)

    same : (N * 1000) // (L * knots) · moved unit knots ≈ N // 10000000
    unfolding moved
    same = record { cross = rw (suc-pred-eq_of_pos work_some) (omega arith) }

    exact_index : (s : Side) → bounds s (index (at_end top r)) ((N * 1000) // (L * knots))
    exact_index s = index_side s _ (rw (at_factor (other s), at_speed (other s), at_emission s) (lies-≈ s same))

    -- So the index is a fraction.
    pub a_fraction : (x : Frac) × Enclosed (index (at_end top r)) x x
    a_fraction = (_, record { low = exact_index below; high = exact_index above })

    pub lower_greatest : (t : ℕ) → bounds below (index (at_end top r)) (t // 1000000) → t ≤ lower_of (at_end top r)
    unfolding lower_of ship_at
    lower_greatest t h =
        let k : t // 1000000 ≼ (N * 1000) // (L * knots) = consistent _ h (exact_index above) in
        let x : t * (L * knots) ≤ N * 1000 * 1000000 = rw (suc-pred-eq_of_pos work_some) at k.cross in
        floor_greatest (lower_floor sized_lower) t (rw (at_speed above, at_factor above, at_emission below) (omega arith))

    pub upper_least : (t : ℕ) → bounds above (index (at_end top r)) (t // 1000000) → upper_of (at_end top r) ≤ t
    unfolding upper_of ship_at
    upper_least t h =
        let k : (N * 1000) // (L * knots) ≼ t // 1000000 = consistent _ (exact_index below) h in
        let x : N * 1000 * 1000000 ≤ t * (L * knots) = rw (suc-pred-eq_of_pos work_some) at k.cross in
        ceil_least (upper_ceil sized_upper) t (rw (at_speed below, at_factor below, at_emission above) (omega arith))

-- Of one speed there is one pair of bounds, whatever method it came by: that of the same ship with the speed declared.
declared_speed : (f : Figures ℕ) (v : ℕ) → speed_of (declaring v f) ≡ exactly (v * 10000)
unfolding speed_of
declared_speed f v = declared_exact v _ _ _

pub as_declared : (f : Figures ℕ) (v : ℕ) → speed_of f ≡ exactly (v * 10000) → (lower_of f ≡ lower_of (declaring v f)) × (upper_of f ≡ upper_of (declaring v f))
unfolding lower_of upper_of emitted factor_of main_N auxiliary_N
as_declared f v e = let same : speed_of f ≡ speed_of (declaring v f) = e ∙ sym (declared_speed f v) in (rw same, rw same)

-- ── Demand 3 ────────────────────────────────────────────────────────────────────────────────

-- A declared speed by name grows with the speed.
declared_order : (kind : Kind) (dwt : Deadweight) {v w : ℕ} (P P' : ℕ) → v ≤ w
    → ((speed_by (declared v) kind dwt P).lo ≤ (speed_by (declared w) kind dwt P').lo) × ((speed_by (declared v) kind dwt P).hi ≤ (speed_by (declared w) kind dwt P').hi)
declared_order kind dwt {v} {w} P P' h =
    rw (declared_exact v kind dwt P, declared_exact w kind dwt P') (mul-le-mul_right 10000 h, mul-le-mul_right 10000 h)

-- The speed as a pair; of a general cargo ship it is one, at any end and inside.
abbrev by_pair : Kind → Deadweight → Method ℕ → ℕ → Bounds
by_pair kind dwt m P = speed_by m kind dwt P

power_aside : (kind : Kind) (dwt : Deadweight) (n P P' : ℕ) → by_pair kind dwt (declared n) P ≡ by_pair kind dwt (declared n) P'
power_aside kind dwt n P P' = declared_exact n kind dwt P ∙ sym (declared_exact n kind dwt P')

module _ (p q : Range → ℕ) (single_p : SingleEnd p) (single_q : SingleEnd q) where
  pub one_speed : {r : Figures Range} {f : Figures ℕ} → Inside r f → Settled r.method r.engines → Firm r.method → speed_of (ship_at p q r) ≡ speed_of f
  unfolding ship_at speed_of
  one_speed (alike {s = s} e c v) settled firm = method_firm p q single_p single_q (by_pair s.kind s.deadweight) (power_aside s.kind s.deadweight) v settled firm e

-- So both ends have one.
both_alike : (kind : Kind) (dwt : Deadweight) (m : Method Range) (es : List (Engine Range)) → Settled m es → Firm m
    → speed_by (method_at high m) kind dwt (sum_P_ME (engines_at low es)) ≡ speed_by (method_at low m) kind dwt (sum_P_ME (engines_at high es))
unfolding method_at Settled
both_alike kind dwt (declared v) es s firm = rw firm (power_aside kind dwt v.high _ _)
both_alike kind dwt (trial v kW) es s firm = rw (s.0, same_power true es s.1)
both_alike kind dwt (design_trial v kW tested) es s firm = rw (s.0, same_power true es s.1)
both_alike kind dwt statistical es s firm = rw (same_power true es s)

pub ends_alike : {r : Figures Range} → AcceptedFigures r → Firm r.method → speed_of (most_favourable r) ≡ speed_of (least_favourable r)
unfolding speed_of ship_at
ends_alike {r} a firm = both_alike r.ship.kind r.ship.deadweight r.method r.engines a.settled firm

-- The emissions of a ship inside lie between those of the two ends.
emitted_lower : {r : Figures Range} {f : Figures ℕ} → Inside r f → Settled r.method r.engines → (r.ship.kind ≡ general → Firm r.method)
    → (emitted (most_favourable r)).lo ≤ (emitted f).lo
unfolding emitted ship_at
emitted_lower (alike {s = s} e c v) settled firm =
    add-le-add
    (main_order s.kind s.hull (λ k. one_speed low high low_single high_single (alike e c v) settled (firm k)) (main_inside (alike e c v)).from).0
    (auxiliary_inside (alike e c v)).from

emitted_upper : {r : Figures Range} {f : Figures ℕ} → Inside r f → Settled r.method r.engines → (r.ship.kind ≡ general → Firm r.method)
    → (emitted f).hi ≤ (emitted (least_favourable r)).hi
unfolding emitted ship_at
emitted_upper (alike {s = s} e c v) settled firm =
    add-le-add
    (main_order s.kind s.hull (λ k. sym (one_speed high low high_single low_single (alike e c v) settled (firm k))) (main_inside (alike e c v)).to).1
    (auxiliary_inside (alike e c v)).to

-- A ship inside the ranges has its own bounds inside the record's.
pub inside_lower : {r : Figures Range} {f : Figures ℕ} → Inside r f → Settled r.method r.engines → (r.ship.kind ≡ general → Firm r.method)
    → Sized (emitted (most_favourable r)).lo (load_of r.ship) (speed_of (most_favourable r)).hi (factor_of (most_favourable r)).hi
    → Sized (emitted f).lo (load_of f.ship) (speed_of f).hi (factor_of f).hi
    → lower_of (most_favourable r) ≤ lower_of f
unfolding ship_at speed_of factor_of lower_of
inside_lower (alike {s = p} e c v) s firm z z' =
    lower_order z z' (emitted_lower (alike e c v) s firm)
    (method_end low high low_single high_single (λ m P. speed_by m p.kind p.deadweight P) (λ x y. y.hi ≤ x.hi) (λ x. le_refl _)
    (λ r n P P' h. (declared_order p.kind p.deadweight P' P h.1).1) v s e)

pub inside_upper : {r : Figures Range} {f : Figures ℕ} → Inside r f → Settled r.method r.engines → (r.ship.kind ≡ general → Firm r.method)
    → Sized (emitted f).hi (load_of f.ship) (speed_of f).lo (factor_of f).lo
    → Sized (emitted (least_favourable r)).hi (load_of r.ship) (speed_of (least_favourable r)).lo (factor_of (least_favourable r)).lo
    → upper_of f ≤ upper_of (least_favourable r)
unfolding ship_at speed_of factor_of upper_of
inside_upper (alike {s = p} e c v) s firm z z' =
    upper_order z z' (emitted_upper (alike e c v) s firm)
    (method_end high low high_single low_single (λ m P. speed_by m p.kind p.deadweight P) (λ x y. x.lo ≤ y.lo) (λ x. le_refl _)
    (λ r n P P' h. (declared_order p.kind p.deadweight P P' h.0).0) v s e)

-- Narrowing moves neither bound outward.
pub narrowed_lower : {r r' : Figures Range} → AcceptedFigures r → AcceptedFigures r' → Narrowed r r' → lower_of (most_favourable r) ≤ lower_of (most_favourable r')
unfolding ship_at
narrowed_lower a a' n = inside_lower (ship_inside low high low_inside high_inside n) a.settled a.firm (sized_lower false a) (sized_lower false a')

pub narrowed_upper : {r r' : Figures Range} → AcceptedFigures r → AcceptedFigures r' → Narrowed r r' → upper_of (least_favourable r') ≤ upper_of (least_favourable r)
unfolding ship_at
narrowed_upper a a' n = inside_upper (ship_inside high low high_inside low_inside n) a.settled a.firm (sized_upper true a') (sized_upper true a)

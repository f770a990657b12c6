-- A record with no refusal has figures that the calculations can count on.
-- Assumes nothing.
use Prim.Native.Nat.{ℕ, zero, suc, ◌*◌, ◌≤◌, ◌<◌}
use mathlib.Core.Path.{◌≡◌, refl, sym, ap, ◌∙◌}
use mathlib.Core.Bool.{Bool, true, false, ◌&&◌, ◌||◌, not}
use mathlib.Core.List.{List, [], ◌∷◌}
use native.Mathlib.Omega.{arith}
use borrow.Author.Tests.{eqb-true, eqb-false}
use lib.Dec.{eqb, lit≤}
use lib.ListN.{length, get_or}
use Rattle.std.specs.Prelude.{None}
use Rattle.exact.specs.Ship as exact
use Rattle.exact.specs.Ranges.{Range, engines_at, low, high, Single, Settled, Firm}
use Rattle.formula.specs.Words.{if}
use Rattle.exact.specs.Index.{Capacity, P_ME, sum_P_ME}
use Rattle.ship.specs.Record.{no_engine, no_crane}
use Rattle.ship.specs.Rules.{nonzero, outside, between, refusal_of}
use Rattle.ship.specs.Figures.{kinds, kind_of, Listed, fuel_of, range_of, deadweight_of, uses_of, engine_of, mains, auxiliary_of, method_of, crane_of, cranes_of, figures}
use Rattle.ship.specs.Accepted.{Within, Ends, Limited, no_limiter, limiter, Measured, Rated, Each, no_more, one_more, Supplied, Near, ByDesignDraught, Sailed, Geared, AcceptedFigures}
use Rattle.ship.specs.declared.Consumption.{Consumption}
use Rattle.ship.specs.declared.Engine.{Engine}
use Rattle.ship.specs.declared.Crane.{Crane}
use Rattle.ship.specs.declared.Trial.{Trial}
use Rattle.ship.specs.declared.Ship.{Ship}
use Rattle.exact.proofs.Rules.{P_ME_unlimited, P_ME_limited}
use Rattle.ship.proofs.Numbered.{by_number}
use Rattle.ship.proofs.Right.{Metered, Entry, OfType, by_method, by_type, numbers_accepted}

-- ── Types by number ─────────────────────────────────────────────────────────────────────────

number_of_kind : exact.Kind → ℕ
number_of_kind exact.bulk = 1
number_of_kind exact.gas = 2
number_of_kind exact.tanker = 3
number_of_kind exact.container = 4
number_of_kind exact.refrigerated = 5
number_of_kind exact.combination = 6
number_of_kind exact.vehicle = 7
number_of_kind exact.general = 8

kind_back : (k : ℕ) → Listed k → number_of_kind (kind_of k) ≡ k
unfolding number_of_kind
kind_back = by_number (λ k. number_of_kind (kind_of k) ≡ k) (length kinds) ((((((((tt, refl), refl), refl), refl), refl), refl), refl), refl)

draught : (k : ℕ) → Listed k → not (eqb k 1) && not (eqb k 3) && not (eqb k 4) ≡ false → ByDesignDraught (kind_of k)
draught =
    by_number
    (λ k. not (eqb k 1) && not (eqb k 3) && not (eqb k 4) ≡ false → ByDesignDraught (kind_of k))
    (length kinds)
    ((((((((tt, λ h. tt), barred), λ h. tt), λ h. tt), barred), barred), barred), barred)
  where
    barred : true ≡ false → ⊥
    barred h = let z : ◌≡◌ {A = ℕ} 0 1 = cc in omega arith

-- ── Each engine ─────────────────────────────────────────────────────────────────────────────

measured : (c : Consumption) → Metered c → Measured (uses_of c)
unfolding uses_of
measured c m = go (eqb c.source 3) refl
  where
    go : (t : Bool) → eqb c.source 3 ≡ t → Measured (if t exact.neither (exact.recorded (range_of c.sfc) (fuel_of c.fuel)))
    go true e = tt
    go false e = record { least = m.least (eqb-false c.source 3 e); rising = m.rising; most = m.most.1 }

limited : (mcr limit : ℕ) → nonzero limit && outside 100 mcr limit ≡ false → Limited mcr limit
limited mcr zero h = no_limiter
limited mcr (suc l) h = limiter (record { least = grind arith; most = grind arith })

pub rated_entry : (m : ℕ) (e : Engine) → Entry m e → Rated (engine_of e)
unfolding engine_of
rated_entry m e n =
    record {
      mcr = record { least = n.sized.low.least; rising = n.mcr.rising; most = n.sized.high.most };
      limit = limited e.mcr.low e.limit n.sized.limit;
      uses = measured e.uses n.uses;
    }

one_mcr : (e : Engine) → e.mcr.low ≡ e.mcr.high → (engine_of e).mcr.low ≡ (engine_of e).mcr.high
unfolding engine_of
one_mcr e h = h

-- What holds of each entry that is used holds of each main engine.
pub each_main : (P : exact.Engine Range → Type 0) (n : ℕ) (es : List Engine) → n ≤ length es
    → ((i : ℕ) → i < n → P (engine_of (get_or es i no_engine))) → Each P (mains n es)
unfolding mains
each_main P zero es h f = no_more
each_main P (suc n) [] h f = absurd (omega arith)
each_main P (suc n) (e ∷ es) h f = one_more (f 0 (omega arith)) (each_main P n es (omega arith) (λ i k. f (suc i) (omega arith)))

pub count : (n : ℕ) (es : List Engine) → n ≤ length es → length (mains n es) ≡ n
unfolding mains
count zero es h = refl
count (suc n) [] h = absurd (omega arith)
count (suc n) (e ∷ es) h = ap suc (count n es (omega arith))

single : {es : List (exact.Engine Range)} → Each (λ e. e.mcr.low ≡ e.mcr.high) es → Single es
unfolding Single
single no_more = tt
single (one_more h hs) = (h, single hs)

-- ── The sum of P_ME, at either end ──────────────────────────────────────────────────────────

pub power_within : (mcr floor limit : ℕ) → 100 ≤ mcr → mcr ≤ 120000 → Limited floor limit → Within 7500 9000000 (P_ME mcr limit)
power_within mcr floor _ h k no_limiter = rw (P_ME_unlimited mcr) (record { least = omega arith; most = omega arith })
power_within mcr floor limit h k (limiter w) =
    rw (P_ME_limited mcr limit (omega (arith, w.least))) (record { least = omega (arith, w.least); most = omega arith })

-- An end of a range within 100–120,000.
abbrev End : (Range → ℕ) → Type 0
End p = (r : Range) → Ends 100 120000 r → (100 ≤ p r) × (p r ≤ 120000)

sum_within : (p : Range → ℕ) → End p → {es : List (exact.Engine Range)} → Each Rated es → Within (length es * 7500) (length es * 9000000) (sum_P_ME (engines_at p es))
unfolding sum_P_ME engines_at
sum_within p f no_more = record { least = omega arith; most = omega arith }
sum_within p f (one_more {x = e} h hs) =
    let b = f e.mcr h.mcr in
    let a = power_within (p e.mcr) e.mcr.low e.limit b.0 b.1 h.limit in
    let r = sum_within p f hs in
    record { least = omega (arith, a.least, r.least); most = omega (arith, a.most, r.most) }

-- ── The speed ───────────────────────────────────────────────────────────────────────────────

-- A speed method by its number.
module _ (v : Range) (t : Trial) (kind : exact.Kind) (d : exact.Deadweight) (P : ℕ) where
  abbrev Sails : ℕ → Type 0
  Sails m =
      (m ≤ 3 → Ends 500 6000 v) → (2 ≤ m → m ≤ 3 → Within 1 600000 t.power × Near (100 * t.power) P)
      → (m ≡ 3 → Near (100 * t.deadweight.tonnes) (Capacity kind d) × ByDesignDraught kind) → Sailed (method_of m v t) kind d P

  sailed : (m : ℕ) → Within 1 4 m → Sails m
  unfolding method_of
  sailed =
      by_number Sails 4 (
        (
          ((tt, λ f g h. f (lit≤ tt)), λ f g h. record { speed = f (lit≤ tt); power = (g (lit≤ tt) (lit≤ tt)).0; near = (g (lit≤ tt) (lit≤ tt)).1 }),
          λ f g h. (record { speed = f (lit≤ tt); power = (g (lit≤ tt) (lit≤ tt)).0; near = (g (lit≤ tt) (lit≤ tt)).1 }, (h refl).0, (h refl).1),
        ),
        λ f g h. tt,
      )

module _ (v : Range) (t : Trial) (es : List (exact.Engine Range)) where
  settled : (m : ℕ) → Within 1 4 m → (2 ≤ m → v.low ≡ v.high) → (2 ≤ m → Single es) → Settled (method_of m v t) es
  unfolding method_of Settled
  settled =
      by_number (λ m. (2 ≤ m → v.low ≡ v.high) → (2 ≤ m → Single es) → Settled (method_of m v t) es) 4
      ((((tt, λ f g. tt), λ f g. (f (lit≤ tt), g (lit≤ tt))), λ f g. (f (lit≤ tt), g (lit≤ tt))), λ f g. g (lit≤ tt))

-- Of a general cargo ship a declared speed is one figure.
firm : (v : Range) (t : Trial) (m : ℕ) → Within 1 4 m → v.low ≡ v.high → Firm (method_of m v t)
unfolding method_of
firm v t = by_number (λ m. v.low ≡ v.high → Firm (method_of m v t)) 4 ((((tt, λ h. h), λ h. tt), λ h. tt), λ h. tt)

-- ── The cranes ──────────────────────────────────────────────────────────────────────────────

each_crane : (n : ℕ) (cs : List Crane) → ((i : ℕ) → i < n → Geared (crane_of (get_or cs i no_crane))) → Each Geared (cranes_of n cs)
unfolding cranes_of
each_crane zero cs f = no_more
each_crane (suc n) [] f = no_more
each_crane (suc n) (c ∷ cs) f = one_more (f 0 (omega arith)) (each_crane n cs (λ i k. f (suc i) (omega arith)))

crane_count : (n : ℕ) (cs : List Crane) → length (cranes_of n cs) ≤ n
unfolding cranes_of
crane_count zero cs = omega arith
crane_count (suc n) [] = omega arith
crane_count (suc n) (c ∷ cs) = omega (arith, crane_count n cs)

supplied : (m kW : ℕ) → OfType 2 1 50000 m kW → Supplied (auxiliary_of m kW)
unfolding auxiliary_of
supplied m kW h = go (eqb m 2) refl
  where
    go : (t : Bool) → eqb m 2 ≡ t → Supplied (if t (exact.table kW) exact.rule)
    go true e = record { least = h.least (eqb-true m 2 e); most = h.most }
    go false e = tt

-- ── The figures of a record with no refusal ─────────────────────────────────────────────────

pub figures_accepted : (s : Ship) → length s.engines ≡ 4 → refusal_of s ≡ None → AcceptedFigures (figures s)
unfolding figures number_of_kind
figures_accepted s four e =
    let r = numbers_accepted s e in
    let p = s.particulars in
    let es = s.engines in
    let room : p.used ≤ length es = omega (arith, r.used.most) in
    let engines = each_main Rated p.used es room (λ i h. rated_entry p.method (get_or es i no_engine) (r.entries i h)) in
    let n = count p.used es room in
    let u = r.used in
    let number : (kind : exact.Kind) → kind_of p.kind ≡ kind → p.kind ≡ number_of_kind kind = λ kind k. sym (kind_back p.kind r.kind) ∙ ap number_of_kind k in
    let held : between 2 4 p.method ≡ true → between 2 4 p.method || eqb p.kind 8 ≡ true = λ k. rw k in
    let l = sum_within low (λ q h. (h.least, omega (arith, h.rising, h.most))) engines in
    let h = sum_within high (λ q h. (omega (arith, h.least, h.rising), h.most)) engines in
    record {
      deadweight = r.deadweight;
      gross = λ k. record { least = r.gross.least (number exact.vehicle k); most = r.gross.most };
      cargo = λ k. record { least = r.cargo.least (number exact.bulk k); most = r.cargo.most };
      auxiliary = supplied p.supply p.table r.table;
      auxiliary_uses = measured s.auxiliary r.auxiliary_uses;
      count = rw n r.used;
      engines = engines;
      power_low = record { least = omega (arith, l.least); most = omega (arith, l.most) };
      power_high = record { least = omega (arith, h.least); most = omega (arith, h.most) };
      method = sailed
          (range_of s.speed)
          p.trial
          (kind_of p.kind)
          (deadweight_of p.deadweight)
          _
          p.method
          r.speed.method
          (λ k. record { least = r.speed.least k; rising = r.ends.rising; most = r.speed.most.1 })
          r.trial.tried
          (λ k. (r.trial.loaded k, draught p.kind r.kind (r.speed.draught k)));
      settled = settled (range_of s.speed) p.trial (mains p.used es) p.method r.speed.method (λ k. r.ends.single (held (by_method p.method r.speed.method k)))
          (λ k. single (each_main (λ e. e.mcr.low ≡ e.mcr.high) p.used es room (λ i h. one_mcr (get_or es i no_engine) ((r.entries i h).mcr.single (by_method p.method r.speed.method k)))));
      firm = λ k. firm (range_of s.speed) p.trial p.method r.speed.method (r.ends.single (by_type p.method p.kind (number exact.general k)));
      lightweight = r.build.lightweight;
      hull = λ k. r.build.hull (number exact.general k);
      cranes = each_crane p.build.cranes p.build.gear r.build.used;
      few = omega (arith, crane_count p.build.cranes p.build.gear, r.build.cranes);
    }

-- Where V_ref is the speed as it was recorded, it is that fraction on both sides: every power in it is one of 1. Assumes nothing.
use mathlib.Core.Path.{◌≡◌}
use Prim.Native.Nat.{ℕ, ◌*◌, ◌<◌}
use native.Mathlib.Omega.{arith}
use Rattle.formula.specs.Formula.{Frac, ◌//◌, ◌·◌, below, above, Formula, lit, ◌⊘◌, ◌↑◌, by_quotient, Enclosed}
use Rattle.formula.specs.Words.{whole, percent}
use Rattle.formula.proofs.Fractions.{◌≈◌, lies-≈}
use Rattle.formula.proofs.Formulas.{enclosed-≈, enclosed_lit, enclosed_product}
use Rattle.formula.proofs.Powers.{power_of_one}
use Rattle.exact.specs.Ship.{Deadweight, Kind, Method}
use Rattle.exact.specs.Index.{Capacity, k, V_ref, AsRecorded, without_trial, at_P_ME, at_P_ME_and_Capacity}
use Rattle.exact.proofs.Rules.{Capacity_between}

-- A formula that is 1, to any power; and the quotient of two that are alike.
one_power : {a : Formula} (e : Frac) → Enclosed a (1 // 1) (1 // 1) → Enclosed (a ↑ e) (1 // 1) (1 // 1)
one_power e h = record { low = power_of_one e h.low; high = power_of_one e h.high }

one_quotient : {a b : Formula} {x : Frac} → Enclosed a x x → Enclosed b x x → 0 < x.num → Enclosed (a ⊘ b) (1 // 1) (1 // 1)
one_quotient {x = x} p q some =
    let same : 1 // 1 · x ≈ x = omega arith in
    record { low = by_quotient p.low q.high some (lies-≈ below same); high = by_quotient p.high q.low some (lies-≈ above same) }

-- n hundredths that are m.
hundredths : (n m : ℕ) → n ≡ 100 * m → Enclosed (lit (n // 100)) (m // 1) (m // 1)
hundredths n m e = let same : n // 100 ≈ m // 1 = omega (arith, e) in enclosed-≈ (enclosed_lit _) same

-- Each factor of V_ref that is a power.
power_factor : (P power : ℕ) → 0 < P → P ≡ 100 * power → Enclosed ((lit (P // 100) ⊘ whole power) ↑ (1 // 3)) (1 // 1) (1 // 1)
power_factor P power some e = one_power _ (one_quotient (hundredths P power e) (enclosed_lit _) (omega arith))

draught_factor : (t C : ℕ) → 0 < C → C ≡ 100 * t → Enclosed ((whole t ⊘ lit (C // 100)) ↑ (2 // 9)) (1 // 1) (1 // 1)
draught_factor t C some e = one_power _ (one_quotient (enclosed_lit _) (hundredths C t e) (omega arith))

k_factor : (n : ℕ) → n ≡ 100 → Enclosed (percent n ↑ (1 // 3)) (1 // 1) (1 // 1)
k_factor n e = one_power _ (hundredths n 1 e)

pub as_recorded : {m : Method ℕ} {kind : Kind} {dwt : Deadweight} {P v : ℕ} → 0 < P → 0 < dwt.tonnes → AsRecorded m kind dwt P v
    → Enclosed (V_ref m kind dwt (lit (P // 100))) (v // 100) (v // 100)
unfolding V_ref
as_recorded some heavy without_trial = enclosed_lit _
as_recorded some heavy (at_P_ME {v} {power} {P} e) =
    let same : v // 100 · 1 // 1 ≈ v // 100 = omega arith in
    enclosed-≈ (enclosed_product (enclosed_lit _) (power_factor P power some e)) same
as_recorded some heavy (at_P_ME_and_Capacity {v} {power} {P} {kind} {dwt} {tested} e f g) =
    let same : 1 // 1 · 1 // 1 · v // 100 · 1 // 1 ≈ v // 100 = omega arith in
    let loaded : 0 < Capacity kind dwt = omega (arith, (Capacity_between kind dwt).0) in
    enclosed-≈
    (enclosed_product
    (enclosed_product (enclosed_product (k_factor (k kind dwt) f) (draught_factor tested.tonnes (Capacity kind dwt) loaded g)) (enclosed_lit _))
    (power_factor P power some e))
    same

-- What holds of every row of method 4's table, computed once for all, and of the deadweight that goes into it.
-- Assumes nothing.
use mathlib.Core.Bool.{Bool, true, false}
use Prim.Native.Nat.{ℕ, ◌+◌, ◌*◌, ◌^◌, ◌≤◌, min}
use native.Mathlib.Nat.{mul-le-mul_left, mul-le-mul_right, pow-le-pow_left}
use native.Mathlib.Omega.{arith}
use Rattle.exact.specs.Ship.{Deadweight, Kind, bulk, gas, tanker, container, refrigerated, combination, vehicle, general}
use Rattle.formula.specs.Words.{if}
use Rattle.exact.specs.Index.{container?, row, sized}
use Rattle.formula.proofs.Wholes.{mul_pow}
use Rattle.ship.specs.Accepted.{Within}

-- What is chosen for a row. j and m: 600,000^C is at most m, since C is at most 1/j and 600,000 at most m^j.
-- a, b and c: 600,000^(F/3 - C) is at most c, since F/3 - C is at most a/b and 600,000^a at most c^b.
pub record Chosen : Type 0 where
  pub j : ℕ
  pub m : ℕ
  pub a : ℕ
  pub b : ℕ
  pub c : ℕ

pub record Fit (A C D F j m a b c : ℕ) : Type 0 where
  pub a_low : 10600 ≤ A
  pub a_high : A ≤ 166773
  pub c_high : C ≤ 31518
  pub d_low : 1 ≤ D
  pub d_high : D ≤ 2627693
  pub f_high : F ≤ 138634
  pub j_low : 1 ≤ j
  pub c_root : C * j ≤ 100000
  pub top : 600000 ≤ m ^ j
  pub fast : A * m ≤ 901000
  pub b_some : 1 ≤ b
  pub cut : C * b ≤ a * 300000
  pub spread : F * b ≤ C * 3 * b + a * 300000
  pub grown : 600000 ^ a ≤ c ^ b
  pub c_some : 1 ≤ c
  pub apart : C * 3 + 30000 ≤ F
  pub strong : (382000 * c) ^ 3 * D ≤ (19 * A) ^ 3 * 1000000
  pub weak : (200 * A) ^ 3 * 14400000000 ≤ 660000000 ^ 3 * (3 * D)

pub row_fits : (kind : Kind) → (n : Chosen) × Fit (row kind).A (row kind).C (row kind).D (row kind).F n.j n.m n.a n.b n.c
unfolding row
row_fits bulk = (record { j = 13; m = 3; a = 2; b = 13; c = 8 }, omega arith)
row_fits gas = (record { j = 13; m = 3; a = 2; b = 15; c = 6 }, omega arith)
row_fits tanker = (record { j = 13; m = 3; a = 2; b = 15; c = 6 }, omega arith)
row_fits container = (record { j = 5; m = 15; a = 5; b = 31; c = 9 }, omega arith)
row_fits refrigerated = (record { j = 3; m = 85; a = 2; b = 13; c = 8 }, omega arith)
row_fits combination = (record { j = 13; m = 3; a = 2; b = 15; c = 6 }, omega arith)
row_fits vehicle = (record { j = 13; m = 3; a = 3; b = 25; c = 5 }, omega arith)
row_fits general = (record { j = 5; m = 15; a = 3; b = 25; c = 5 }, omega arith)

-- ── The deadweight, cut for a container ship ────────────────────────────────────────────────

pub sized_within : (most : ℕ) (kind : Kind) (dwt : Deadweight) → 100 ≤ most → Within 100 600000 dwt.tonnes → Within 100 600000 (sized most kind dwt)
unfolding sized
sized_within most kind dwt h w = go (container? kind)
  where
    go : (b : Bool) → Within 100 600000 (if b (min dwt.tonnes most) dwt.tonnes)
    go true = record { least = omega (arith, w.least); most = omega (arith, w.most) }
    go false = w

-- Where the two cuts differ, they do by a factor of at most 6/5 and E is small: so (E/B)^3 E is no more than E may be.
pub record Cuts (E B : ℕ) : Type 0 where
  pub order : B ≤ E
  pub most : E ≤ 600000
  pub near : E ^ 3 * E ≤ B ^ 3 * 600000

cuts : (E B f : ℕ) → B ≤ E → E ≤ 600000 → 5 * E ≤ f * B → f ^ 3 * E ≤ 75000000 → Cuts E B
cuts E B f order most wide small =
    let x : 125 * E ^ 3 ≤ f ^ 3 * B ^ 3 = rw (mul_pow 5 E 3, mul_pow f B 3) at (pow-le-pow_left wide 3) in
    record { order = order; most = most; near = omega (arith, mul-le-mul_right E x, mul-le-mul_left (B ^ 3) small) }

pub two_cuts : (kind : Kind) (dwt : Deadweight) → Within 100 600000 dwt.tonnes → Cuts (sized 95000 kind dwt) (sized 80000 kind dwt)
unfolding sized
two_cuts kind dwt w = go (container? kind)
  where
    go : (b : Bool) → Cuts (if b (min dwt.tonnes 95000) dwt.tonnes) (if b (min dwt.tonnes 80000) dwt.tonnes)
    go true = cuts _ _ 6 (omega arith) (omega arith) (omega arith) (omega arith)
    go false = cuts _ _ 5 (omega arith) w.most (omega arith) (omega (arith, w.most))

-- Products with the table's entries, rounded down: each is at most the power of 2, and loses at most two parts in 2^61. Assumes nothing.
use mathlib.Core.Path.{◌≡◌}
use Prim.Native.Nat.{ℕ, ◌+◌, ◌*◌, ◌^◌, ◌≤◌, ◌<◌}
use native.Mathlib.Nat.{mul-le-mul_right, mul-pos, one-le-pow}
use native.Mathlib.Omega.{arith}
use lib.Dec.{lit≤}
use lib.Pow.{pow-add}
use Rattle.formula.proofs.Wholes.{square}
use Rattle.power.specs.Steps.{times_of}
use Rattle.power.proofs.Twos.{AtMost, AtLeast, most_mul, least_mul, most_down, LeastUp, most_none, least_none}
use Rattle.power.proofs.Entries.{Factor}

pub times_down : (u v : ℕ) → times_of u v * 2 ^ 63 ≤ u * v
unfolding times_of
times_down u v = omega arith

pub times_up : (u v : ℕ) → u * v ≤ (times_of u v + 2) * 2 ^ 63
unfolding times_of
times_up u v = omega arith

-- ── One product ─────────────────────────────────────────────────────────────────────────────

pub grow_most : {t s e d w f n : ℕ} (y : ℕ) → 0 < s → 0 < w → y * w ≤ t * d → AtMost t s e n → AtMost d w f n → AtMost y s (e + f) n
grow_most {t} {s} {e} {d} {w} {f} {n} y spos wpos h a b = most_down (mul-pos spos wpos) (omega (arith, mul-le-mul_right s h)) (most_mul a b)

-- P/Q and R/R' are what the two factors have lost.
pub grow_least : {e f n : ℕ} (t d y s w P Q R R' z : ℕ) → 0 < s → 0 < w → 0 < Q → 0 < R' → t * d ≤ (y + 2) * w → 2 * z ≤ y
    → AtLeast (t * P) (s * Q) e n → AtLeast (d * R) (w * R') f n → AtLeast (y * (P * R * (z + 1))) (s * (Q * R' * z)) (e + f) n
grow_least {e} {f} {n} t d y s w P Q R R' z spos wpos Qpos Rpos h low a b =
    let i : (y + 2) * z ≤ y * (z + 1) = omega arith in
    let g : t * d * z ≤ y * (z + 1) * w = omega (arith, mul-le-mul_right z h, mul-le-mul_right w i) in
    LeastUp (mul-pos (mul-pos spos Qpos) (mul-pos wpos Rpos)) (lost t d y s w P Q R R' z g) (least_mul a b)
  where
    lost : (t d y s w P Q R R' z : ℕ) → t * d * z ≤ y * (z + 1) * w → t * P * (d * R) * (s * (Q * R' * z)) ≤ y * (P * R * (z + 1)) * (s * Q * (w * R'))
    lost t d y s w P Q R R' z g = omega (arith, mul-le-mul_right (P * R * s * Q * R') g)

-- An entry has lost one rounding itself.
entry_least : {e n : ℕ} (d s z : ℕ) → 0 < s → z ≤ d → AtLeast (d + 1) s e n → AtLeast (d * (z + 1)) (s * z) e n
entry_least d s z pos low h =
    let i : (d + 1) * z ≤ d * (z + 1) = omega arith in
    LeastUp pos (omega (arith, mul-le-mul_right s i)) h

-- ── Products of entries ─────────────────────────────────────────────────────────────────────

-- t is at most s times 2^(e / 2^32), and less by no more than k losses.
pub record Grown (s e k t : ℕ) : Type 0 where
  pub most : AtMost t s e (2 ^ 32)
  pub least : AtLeast (t * (2 ^ 61 + 1) ^ k) (s * (2 ^ 61) ^ k) e (2 ^ 32)

pub none_grown : (s : ℕ) → Grown s 0 0 s
none_grown s = record { most = most_none s (2 ^ 32); least = least_none (s * 1) (2 ^ 32) }

pub entry_grown : {e d : ℕ} → Factor e d → Grown (2 ^ 63) e 1 d
entry_grown {e} {d} f = record { most = f.most; least = entry_least d (2 ^ 63) (2 ^ 61) (lit≤ tt) (omega (arith, f.low)) f.least }

two_more : (x k : ℕ) → x ^ (k + 2) ≡ x ^ k * x * x
two_more x k = rw (pow-add x k 2, square x) (omega arith)

pub times_grown : {s e f k t d : ℕ} → 0 < s → 2 ^ 62 ≤ times_of t d → Grown s e k t → Factor f d → Grown s (e + f) (k + 2) (times_of t d)
times_grown {s} {e} {f} {k} {t} {d} pos low g h =
    let z = 2 ^ 61 in
    record {
      most = grow_most (times_of t d) pos (lit≤ tt) (times_down t d) g.most h.most;
      least =
          rw (two_more (z + 1) k, two_more z k)
          (grow_least t d (times_of t d) s (2 ^ 63) ((z + 1) ^ k) (z ^ k) (z + 1) z z pos (lit≤ tt) (one-le-pow k z (lit≤ tt)) (lit≤ tt) (times_up t d) (omega arith)
          g.least (entry_least d (2 ^ 63) z (lit≤ tt) (omega (arith, h.low)) h.least));
    }

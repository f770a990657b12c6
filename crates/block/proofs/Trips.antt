-- The two return trips over the table: what is written is read, and what is read is written to the same bytes.
-- Assumes nothing.
use Prim.Native.Nat.{ℕ, zero, suc, ◌+◌}
use mathlib.Core.Path.{◌≡◌, refl, sym, ap, ◌∙◌}
use mathlib.Core.Bool.{false, ◌||◌, not}
use mathlib.Core.List.{List, [], ◌∷◌, append-nil}
use native.Mathlib.Omega.{arith}
use borrow.Author.Tests.{eqb-true, eq-eqb, not-false}
use lib.Dec.{eqb}
use lib.ListN.{length, get_or, take, drop, drop_of_length-le}
use lib.Seq.{drop-cons, take-add, take_all}
use Rattle.std.specs.Prelude.{None, Ok}
use Rattle.fields.specs.Numbers.{number_at, Bytes}
use Rattle.fields.specs.Runs.{pack, total, numbers_at, numbers_of, packed}
use Rattle.fields.specs.Checks.{sums}
use Rattle.fields.proofs.Checks.{sums_below}
use Rattle.fields.proofs.Runs.{Fit, none, ◌&◌, unpack, repack}
use Rattle.ship.specs.Record.{no_engine, no_crane, Entries, with_build}
use Rattle.ship.specs.Refusals.{first_of}
use Rattle.ship.specs.Rules.{nonzero, tests, refusal_of}
use Rattle.ship.specs.declared.Crane.{Crane}
use Rattle.ship.specs.declared.Particulars.{Particulars}
use Rattle.ship.specs.declared.Ship.{Ship}
use Rattle.ship.specs.declared.Refusal.TheVariants.{Length, Check}
use Rattle.ship.proofs.Order.{next_test}
use Rattle.ship.proofs.Tests.{neither, is_zero}
use Rattle.ship.proofs.Right.{numbers_accepted, own_refusal, all_passed as passed_rows}
use Rattle.build_fields.specs.Fields.{front, cranes, sizes, added, newer, build_from}
use Rattle.layout.specs.Layout.{head, entry, entries, fields, widths, body, encode, numbers_in, ship_from, ship_in}
use Rattle.block.specs.Answers.{length_refused, check_refused, zeros_refused, block_tests, read_refusal, read_of}
use Rattle.layout.proofs.Codec.{encode_length, take_body, drop_body}
use Rattle.layout.proofs.Fitting.{fits}

-- ── A record that is written ────────────────────────────────────────────────────────────────

-- n entries from i on, each by its number.
abbrev numbered : {A : Type 0} → A → List A → ℕ → ℕ → List A
numbered idle es i zero = []
numbered idle es i (suc n) = get_or es i idle ∷ numbered idle es (suc i) n

listed : {A : Type 0} (idle : A) (es : List A) (i n : ℕ) → length es ≡ i + n → numbered idle es i n ≡ drop i es
listed idle es i zero h = sym (drop_of_length-le es {i = i} (omega arith))
listed idle es i (suc n) h = ap (λ (l : List _). get_or es i idle ∷ l) (listed idle es (suc i) n (omega arith)) ∙ sym (drop-cons es i idle (omega arith))

-- Particulars with other crane entries.
abbrev with_gear : Particulars → List Crane → Particulars
with_gear p gear = with_build p.ice p.layout (record { lightweight = p.build.lightweight; hull = p.build.hull; cranes = p.build.cranes; gear = gear; edition = p.build.edition }) p

-- Each number of the table goes to its place in the record.
from_table : (s : Ship) → Entries s → ship_from (numbers_of (fields s)) ≡ s
unfolding ship_from build_from fields head entries entry front cranes sizes added newer
from_table s h =
    λ i. record {
      particulars = with_gear s.particulars (listed no_crane s.particulars.build.gear 0 8 h.gear i);
      speed = s.speed;
      auxiliary = s.auxiliary;
      engines = listed no_engine s.engines 0 4 h.engines i;
    }

module _ (s : Ship) (whole : Entries s) (own : refusal_of s ≡ None) where
  numbers_back : numbers_in (encode s) ≡ numbers_of (fields s)
  unfolding numbers_in encode body widths fields head entries entry front cranes sizes added newer
  numbers_back =
      let q = packed ((2, (sums 1 0 (body s)).a) ∷ (2, (sums 1 0 (body s)).b) ∷ []) in
      unpack (encode s) q 0 (fits s (numbers_accepted s own)) refl

  pub ship_back : ship_in (encode s) ≡ s
  unfolding ship_in
  ship_back = ap ship_from numbers_back ∙ from_table s whole

  check_holds : check_refused (encode s) ≡ false
  unfolding check_refused numbers_at
  check_holds =
      let q = sums 1 0 (body s) in
      let small = sums_below 1 0 (body s) (omega arith) (omega arith) in
      let fit : Fit ((2, q.a) ∷ (2, q.b) ∷ []) = small.0 & small.1 & none in
      let n = unpack (encode s) [] 508 fit (drop_body s ∙ sym (append-nil _)) in
      let a : number_at (encode s) 508 2 ≡ q.a = ap (λ (l : List ℕ). get_or l 0 0) n in
      let b : number_at (encode s) 510 2 ≡ q.b = ap (λ (l : List ℕ). get_or l 1 0) n in
      rw (take_body s, a, b, eq-eqb q.a q.a refl, eq-eqb q.b q.b refl)

  -- The fields that the record has no say in.
  zeros_hold : zeros_refused (encode s) ≡ false
  unfolding zeros_refused fields head entries entry front cranes sizes added newer
  zeros_hold = rw numbers_back

  no_refusal : read_refusal (encode s) ≡ None
  unfolding read_refusal block_tests first_of refusal_of
  no_refusal = rw (eq-eqb (length (encode s)) 512 (encode_length s), check_holds, zeros_hold, ship_back) own

  pub read_back : read_of (encode s) ≡ Ok s
  unfolding read_of
  read_back = rw (no_refusal, ship_back)

-- ── A block that is read ────────────────────────────────────────────────────────────────────

equal : (m n : ℕ) → not (eqb m n) ≡ false → m ≡ n
equal m n e = eqb-true m n (not-false (eqb m n) e)

-- What an accepted block has passed, row by row.
record Passed (b : List ℕ) : Type 0 where
  length : length_refused b ≡ false
  check : check_refused b ≡ false
  own : first_of (tests (zeros_refused b) (ship_in b)) None ≡ None

all_passed : (b : List ℕ) → read_refusal b ≡ None → Passed b
unfolding read_refusal block_tests first_of
all_passed b e =
    let l = next_test (length_refused b) Length _ e in
    let c = next_test (check_refused b) Check _ l.1 in
    record { length = l.0; check = c.0; own = c.1 }

-- So it has, beside its record:
record Sealed (b : List ℕ) : Type 0 where
  long : length b ≡ 512
  check_a : number_at b 508 2 ≡ (sums 1 0 (take 508 b)).a
  check_b : number_at b 510 2 ≡ (sums 1 0 (take 508 b)).b
  zeros : zeros_refused b ≡ false

sealed : (b : List ℕ) → read_refusal b ≡ None → Sealed b
unfolding check_refused
sealed b e =
    let p = all_passed b e in
    let c = neither (not (eqb (number_at b 508 2) (sums 1 0 (take 508 b)).a)) (not (eqb (number_at b 510 2) (sums 1 0 (take 508 b)).b)) p.check in
    record {
      long = equal (length b) 512 p.length;
      check_a = equal (number_at b 508 2) (sums 1 0 (take 508 b)).a c.0;
      check_b = equal (number_at b 510 2) (sums 1 0 (take 508 b)).b c.1;
      zeros = (passed_rows (zeros_refused b) (ship_in b) p.own).zeros;
    }

-- The table of the record that stands in a block has the block's numbers.
to_table : (b : List ℕ) → Sealed b → numbers_of (fields (ship_in b)) ≡ numbers_in b
unfolding ship_in ship_from build_from numbers_in numbers_at widths fields head entries entry front cranes sizes added newer zeros_refused
to_table b h =
    let z7 = neither _ (nonzero (number_at b 142 2) || nonzero (number_at b 188 320)) h.zeros in
    let z6 = neither (nonzero (number_at b 142 2)) (nonzero (number_at b 188 320)) z7.1 in
    let z5 = neither _ (nonzero (number_at b 130 2)) z7.0 in
    let z4 = neither _ (nonzero (number_at b 110 2)) z5.0 in
    let z3 = neither _ (nonzero (number_at b 90 2)) z4.0 in
    let z2 = neither (nonzero (number_at b 49 3)) (nonzero (number_at b 70 2)) z3.0 in
    sym
    (rw (
      is_zero (number_at b 49 3) z2.0,
      is_zero (number_at b 70 2) z2.1,
      is_zero (number_at b 90 2) z3.1,
      is_zero (number_at b 110 2) z4.1,
      is_zero (number_at b 130 2) z5.1,
      is_zero (number_at b 142 2) z6.0,
      is_zero (number_at b 188 320) z6.1,
    ))

body_back : (b : List ℕ) → Bytes b → Sealed b → body (ship_in b) ≡ take 508 b
unfolding body numbers_in widths fields head entries entry front cranes sizes added newer
body_back b h r =
    let n = r.long in
    ap (pack widths) (to_table b r) ∙ repack widths b 0 h (omega arith)

pub encode_back : (b : List ℕ) → Bytes b → read_refusal b ≡ None → encode (ship_in b) ≡ b
unfolding encode numbers_at
encode_back b h e =
    let r = sealed b e in
    let n = r.long in
    let c : packed ((2, number_at b 508 2) ∷ (2, number_at b 510 2) ∷ []) ≡ take 4 (drop 508 b) = repack (2 ∷ 2 ∷ []) b 508 h (omega arith) in
    rw (body_back b h r, ← r.check_a, ← r.check_b, c, ← take-add 508 4 b) (take_all 512 b (omega arith))

-- An accepted block's record has no refusal of its own.
pub record_accepted : (b : List ℕ) → read_refusal b ≡ None → refusal_of (ship_in b) ≡ None
record_accepted b e = own_refusal (zeros_refused b) (ship_in b) (all_passed b e).own

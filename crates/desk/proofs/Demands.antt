-- The three demands. A surveyor who wants to know what the desk promises reads the statements of this file; `bounds` and
-- `bounds_of_block` answer `answer_of` and `answer_of_block`, for every record and every slice of bytes. In two steps `speeds` and
-- `index_from` answer `speeds_answer` and `index_answer`, and of bytes likewise.
-- Assumes nothing.
use Prim.Native.Nat.{ℕ, zero, suc, ◌+◌, ◌*◌, ◌^◌, ◌≤◌, ◌<◌}
use mathlib.Core.Path.{◌≡◌, refl, sym, ap, ap₂, ◌∙◌}
use mathlib.Core.List.{List, [], ◌∷◌}
use native.Mathlib.Nat.{lt_of_le_of_lt}
use native.Mathlib.Omega.{arith}
use lib.ListN.{length}
use lib.Dec.{eqb}
use borrow.Author.Tests.{eq-eqb, ne_eqb, eqb-true, lt-ltb, le-ltb, ltb-true, not-false}
use Rattle.std.specs.Prelude.{Option, None, Some, Ok, Err}
use mathlib.Core.Logic.{◌↔◌}
use mir.Val.{Val}
use denote.Shadow.{shadow}
use denote.Struct.Declared.{row}
use Rattle.formula.specs.Formula.{Frac, ◌//◌, Formula, ◌↑◌, Side, below, above, bounds, Enclosed}
use Rattle.exact.specs.Ship.{Deadweight, Kind, Particulars, declared, bulk, general, IceClass, IB_or_IC, EEXI, EEDI_first, EEDI_amended, Figures}
use Rattle.exact.specs.Ranges.{Range, low, high, method_at, ship_at, Inside, Narrowed, StandsFor, most_favourable, least_favourable}
use Rattle.formula.specs.Words.{if}
use Rattle.exact.specs.Index.{P_ME, emission, f_i, f_l, strengthened, f_m, speed, index, SpeedAsRecorded, without_trial, declaring, OnlyFractions}
use Rattle.formula.proofs.Formulas.{consistent}
use Rattle.formula.proofs.Order.{enclosed_between}
use Rattle.formula.proofs.Powers.{power_of_one}
use Rattle.root.specs.Root.{Root}
use Rattle.root.proofs.Roots.{root_unique}
use Rattle.number.specs.Ratio.{Moderate, rooted_by, cube_root_of}
use Rattle.number.proofs.Ratios.{cube_root_of_is, by_any_root}
use Rattle.power.specs.Power.{Raisable, one, power_of}
use Rattle.power.proofs.Laws.{power_law}
use Rattle.exact.proofs.Rules.{f_i_none, f_l_none, f_c_new}
use Rattle.exact.proofs.Rules as rules
use Rattle.exact.proofs.Favour.{stands_most, stands_least, no_faster, no_slower, inside_enclosed, ship_inside, low_inside, high_inside}
use Rattle.ship.specs.Record.{no_build, in_layout, in_class, in_edition, declared_record}
use Rattle.ship.specs.Figures.{range_of, method_of, figures, ice_of, edition_of}
use Rattle.ship.specs.Refusals.{First, given}
use Rattle.ship.specs.Rules.{outside, layout_refused, type_refused, tests, refusal_of, ice_refused}
use Rattle.ship.specs.Accepted.{Within, Each, NewShip, AcceptedFigures}
use Rattle.ship.specs.declared.Refusal.{Refusal}
use Rattle.ship.specs.declared.Refusal.TheVariants.{Length}
use Rattle.ship.specs.declared.Refusal.TheVariants as refusal
use Rattle.ship.specs.declared.Ship.{Ship}
use Rattle.ship.proofs.Tests.{inside as inside_of}
use Rattle.ship.proofs.Layouts as alike
use Rattle.ship.proofs.Editions as editions
use Rattle.ship.proofs.Declaring.{declared_accepted, recorded_sailed}
use Rattle.ship.proofs.Right.{numbers_accepted}
use Rattle.ship.proofs.Order.{first_is, first_one}
use Rattle.ship.specs.Ends.{record_end, NarrowerRecord}
use Rattle.ship.proofs.Figured.{figures_accepted}
use Rattle.ship.proofs.Ends as ends
use Rattle.ship.proofs.Narrowing as narrowing_of
use Rattle.ship.specs.contracts.Ship.{the_type}
use Rattle.ship.proofs.Typed.{all_entries}
use Rattle.fields.specs.Numbers.{Bytes}
use Rattle.build_fields.specs.Fields.{build_from}
use Rattle.layout.specs.Layout.{encode, ship_from, ship_in}
use Rattle.block.specs.Answers.{length_refused, block_tests, read_refusal, unless, read_of, write_refusal, write_of}
use Rattle.block.proofs.Trips.{record_accepted}
use Rattle.block.proofs.Theorems as block
use Rattle.propeller.specs.Propeller.{exactly, Speed}
use Rattle.index.specs.Attained.{speed_of, speeds_of, lower_of, upper_of, index_of}
use Rattle.index.specs.declared.Index.{Index}
use Rattle.index.specs.declared.SpeedBounds.{SpeedBounds}
use Rattle.index.proofs.Laws as law
use Rattle.index.proofs.Editions.{bounds_under}
use Rattle.factor.proofs.Laws.{vehicles_full}
use Rattle.desk.specs.Answers.{Answer, answer_of, answer_of_block, refusal_number, number_in, lower_in, upper_in, AcceptedRecord, lower, upper, NotLightVehicles}
use Rattle.desk.specs.Steps.{own_speeds, speeds_by, index_by, speeds_answer, speeds_answer_of_block, index_answer, index_answer_of_block, then}
use Rattle.desk.proofs.Stepping as step
use Rattle.desk.proofs.Answering.{numbered, zero_bounded, no_bound}
use mathlib.Core.Bool.{Bool, true, false}

-- ── Demand 1: every input has exactly one answer, by the first rule broken ──────────────────

-- A record's refusal is that of the first of its tests, in the order of docs/RULES.md, that holds; or none.
pub record_first : (s : Ship) → First (tests false s) None (refusal_of s)
unfolding refusal_of
record_first s = first_is (tests false s) None

-- With none the answer is the two bounds, and with any other it is that refusal and no bounds.
pub record_bounded : (s : Ship) → refusal_of s ≡ None → answer_of s ≡ Ok (index_of (figures s))
unfolding answer_of
record_bounded s e = rw e

pub record_refused : (s : Ship) {r : Refusal} → refusal_of s ≡ Some r → answer_of s ≡ Err r
unfolding answer_of
record_refused s e = rw e

-- So the answer's number is that of the first rule broken, and 0 exactly where there are bounds; a refusal has no bound.
pub record_number : (s : Ship) (r : Option Refusal) → First (tests false s) None r → number_in (answer_of s) ≡ refusal_number r
unfolding answer_of
record_number s r f = numbered (refusal_of s) _ ∙ ap refusal_number (first_one (record_first s) f)

pub record_zero : (s : Ship) → number_in (answer_of s) ≡ 0 ↔ (i : Index) × (answer_of s ≡ Ok i)
unfolding answer_of
record_zero s = zero_bounded (refusal_of s) _

pub record_no_bound : (s : Ship) → (refusal_of s ≡ None → ⊥) → (lower_in (answer_of s) ≡ 0) × (upper_in (answer_of s) ≡ 0)
unfolding answer_of
record_no_bound s h = no_bound (refusal_of s) s h

-- The same of bytes, of every length.
pub block_first : (b : List ℕ) → First ((length_refused b, Length) ∷ block_tests b (ship_in b)) None (read_refusal b)
unfolding read_refusal
block_first b = first_is _ None

pub block_bounded : (b : List ℕ) → read_refusal b ≡ None → answer_of_block b ≡ Ok (index_of (figures (ship_in b)))
unfolding answer_of_block
block_bounded b e = rw e

pub block_refused : (b : List ℕ) {r : Refusal} → read_refusal b ≡ Some r → answer_of_block b ≡ Err r
unfolding answer_of_block
block_refused b e = rw e

pub block_number : (b : List ℕ) (r : Option Refusal) → First ((length_refused b, Length) ∷ block_tests b (ship_in b)) None r → number_in (answer_of_block b) ≡ refusal_number r
unfolding answer_of_block
block_number b r f = numbered (read_refusal b) _ ∙ ap refusal_number (first_one (block_first b) f)

pub block_zero : (b : List ℕ) → number_in (answer_of_block b) ≡ 0 ↔ (i : Index) × (answer_of_block b ≡ Ok i)
unfolding answer_of_block
block_zero b = zero_bounded (read_refusal b) _

pub block_no_bound : (b : List ℕ) → (read_refusal b ≡ None → ⊥) → (lower_in (answer_of_block b) ≡ 0) × (upper_in (answer_of_block b) ≡ 0)
unfolding answer_of_block
block_no_bound b h = no_bound (read_refusal b) (ship_in b) h

-- A piece of a block, or more than one, is refused with 1.
pub not_512 : (b : List ℕ) → (length b ≡ 512 → ⊥) → number_in (answer_of_block b) ≡ 1
not_512 b h = block_number b (Some Length) (rw (ne_eqb (length b) 512 h) given)

-- An accepted block is read as the record that stands in it, and answered as that is.
pub block_read : (b : List ℕ) → read_refusal b ≡ None → read_of b ≡ Ok (ship_in b)
block_read = block.accepted_read

pub block_as_record : (b : List ℕ) → read_refusal b ≡ None → answer_of_block b ≡ answer_of (ship_in b)
block_as_record b e = block_bounded b e ∙ sym (record_bounded _ (record_accepted b e))

-- A refused write leaves the lent file as it stood.
pub file_kept : (f : List ℕ) (n : ℕ) (s : Ship) → (write_refusal f n s ≡ None → ⊥) → write_of f n s ≡ f
file_kept = block.refused_stands

-- ── An accepted record ──────────────────────────────────────────────────────────────────────

ranges_kept : {s : Ship} → AcceptedRecord s → AcceptedFigures (figures s)
ranges_kept {s} t = figures_accepted s t.entries.engines t.none

lower_is : {s : Ship} → AcceptedRecord s → lower s ≡ lower_of (most_favourable (figures s))
unfolding index_of
lower_is {s} t = rw (record_bounded s t.none)

upper_is : {s : Ship} → AcceptedRecord s → upper s ≡ upper_of (least_favourable (figures s))
unfolding index_of
upper_is {s} t = rw (record_bounded s t.none)

-- ── Demand 2: without ranges ────────────────────────────────────────────────────────────────

-- The record s stands for the one ship f.
module _ {s : Ship} {f : Figures ℕ} (t : AcceptedRecord s) (one : StandsFor (figures s) f) where
  -- The bounds enclose the exact index, fractional powers included: the EEXI of MEPC.333(76), or the EEDI of the edition recorded.
  pub encloses : Enclosed (index f) (lower s // 1000000) (upper s // 1000000)
  encloses =
      rw (lower_is t, upper_is t, stands_most one, stands_least one)
      (record {
        low = (rw (stands_most one) at (law.encloses false (ranges_kept t))).low;
        high = (rw (stands_least one) at (law.encloses true (ranges_kept t))).high;
      })

  -- They differ by at most a hundred-thousandth of the upper one plus two millionths.
  pub close : upper s * 100000 ≤ lower s * 100000 + upper s + 200000
  close = rw (lower_is t, upper_is t, stands_most one, stands_least one) (rw (stands_most one) at (law.near false (ranges_kept t)))

  -- Where only fractions enter, f_i counted, the index is one, and they are it rounded down and up: types 1 to 7 with f_c 1 and a declared speed or a
  -- trial at the sum of P_ME.
  pub index_fraction : OnlyFractions f → (x : Frac) × Enclosed (index f) x x
  index_fraction only = rw (← stands_most one) (law.a_fraction false (ranges_kept t) (rw (stands_most one) only))

  pub rounded_down : OnlyFractions f → (n : ℕ) → bounds below (index f) (n // 1000000) → n ≤ lower s
  rounded_down only n h = rw (lower_is t) (law.lower_greatest false (ranges_kept t) (rw (stands_most one) only) n (rw (stands_most one) h))

  pub rounded_up : OnlyFractions f → (n : ℕ) → bounds above (index f) (n // 1000000) → upper s ≤ n
  rounded_up only n h = rw (upper_is t) (law.upper_least true (ranges_kept t) (rw (stands_least one) only) n (rw (stands_least one) h))

  -- The speed is enclosed in millionths of a knot, with a difference of at most a millionth of the upper one plus two.
  pub speed_enclosed : Speed (speed f) (speed_of f)
  speed_enclosed = rw (stands_most one) at (law.speed_is false (ranges_kept t))

  -- Declared, or of a trial at the sum of P_ME, by method 3 besides with k 1 and at Capacity, it is the speed as recorded, and both its bounds are: of
  -- every type, and whatever f_c.
  pub speed_recorded : {v : ℕ} → SpeedAsRecorded f v → Enclosed (speed f) (v // 100) (v // 100) × (speed_of f ≡ exactly (v * 10000))
  speed_recorded {v} h =
      let own : SpeedAsRecorded (most_favourable (figures s)) v = rw (stands_most one) h in
      rw (← stands_most one) (law.speed_exactly false (ranges_kept t) own, law.speed_recorded false (ranges_kept t) own)

-- What encloses one index is in order.
pub in_order : {e : Formula} {n m : ℕ} → Enclosed e (n // 1000000) (m // 1000000) → n ≤ m
in_order {e} h = omega (arith, (consistent e h.low h.high).cross)

-- Both bounds are below 2^53.
pub bounds_small : {s : Ship} → AcceptedRecord s → (lower s < 2 ^ 53) × (upper s < 2 ^ 53)
bounds_small t =
    rw (lower_is t, upper_is t)
    (lt_of_le_of_lt (in_order (law.encloses false (ranges_kept t))) (law.small false (ranges_kept t)), law.small true (ranges_kept t))

-- The upper one is above 0, so that two zeros stand for no bounds alone.
pub bounds_some : {s : Ship} → AcceptedRecord s → 0 < upper s
bounds_some t = rw (upper_is t) (law.some true (ranges_kept t))

-- A ship written to a block reads back as the same ship; an accepted block written again has the same bytes.
pub ship_back : {s : Ship} → AcceptedRecord s → read_of (encode s) ≡ Ok s
ship_back {s} t = block.same_ship s t.entries t.none

pub bytes_back : (b : List ℕ) → Bytes b → read_refusal b ≡ None → encode (ship_in b) ≡ b
bytes_back = block.same_bytes

end_accepted : {s : Ship} (top : Bool) → AcceptedRecord s → AcceptedRecord (record_end top s)
end_accepted {s} top t =
    record { entries = record { engines = ends.entries_end top s.engines ∙ t.entries.engines; gear = t.entries.gear }; none = ends.accepted_end top s t.none }

-- ── Demand 3: with ranges ───────────────────────────────────────────────────────────────────

-- Every ship inside the ranges has its exact index between the bounds.
pub inside : {s : Ship} {f : Figures ℕ} → AcceptedRecord s → Inside (figures s) f → Enclosed (index f) (lower s // 1000000) (upper s // 1000000)
inside t i =
    rw (lower_is t, upper_is t)
    (inside_enclosed i (ranges_kept t).settled (law.encloses false (ranges_kept t)) (law.encloses true (ranges_kept t)))

-- Any record whose ranges lie within those of s, all else equal, has narrowed figures, and both its ends are ships inside: so with two
-- equal ends it is one ship inside.
pub records_narrowed : {s s' : Ship} → NarrowerRecord s s' → Narrowed (figures s) (figures s')
records_narrowed = narrowing_of.narrowed

pub records_inside : {s s' : Ship} → NarrowerRecord s s' → Inside (figures s) (most_favourable (figures s')) × Inside (figures s) (least_favourable (figures s'))
records_inside n =
    (ship_inside low high low_inside high_inside (narrowing_of.narrowed n), ship_inside high low high_inside low_inside (narrowing_of.narrowed n))

-- There are such records: those of the most and of the least favourable ship.
pub ends_narrower : {s : Ship} (top : Bool) → AcceptedRecord s → NarrowerRecord s (record_end top s)
ends_narrower {s} top t = narrowing_of.ends_narrower s t.entries.engines t.none top

-- The lower bound is the one of the most favourable ship, the upper bound of the least favourable.
pub lower_of_most : {s s' : Ship} → AcceptedRecord s → AcceptedRecord s' → StandsFor (figures s') (most_favourable (figures s)) → lower s' ≡ lower s
lower_of_most t t' one = lower_is t' ∙ ap lower_of (stands_most one) ∙ sym (lower_is t)

pub upper_of_least : {s s' : Ship} → AcceptedRecord s → AcceptedRecord s' → StandsFor (figures s') (least_favourable (figures s)) → upper s' ≡ upper s
upper_of_least t t' one = upper_is t' ∙ ap upper_of (stands_least one) ∙ sym (upper_is t)

-- There are such records, and they are accepted: the one with every SFC and MCR low and the speed high, and the reverse.
pub most_accepted : {s : Ship} → AcceptedRecord s → AcceptedRecord (record_end false s) × StandsFor (figures (record_end false s)) (most_favourable (figures s))
most_accepted {s} t = (end_accepted false t, ends.stands_most s)

pub least_accepted : {s : Ship} → AcceptedRecord s → AcceptedRecord (record_end true s) × StandsFor (figures (record_end true s)) (least_favourable (figures s))
least_accepted {s} t = (end_accepted true t, ends.stands_least s)

-- Narrowing moves neither outward.
pub narrowing : {s s' : Ship} → AcceptedRecord s → AcceptedRecord s' → Narrowed (figures s) (figures s') → (lower s ≤ lower s') × (upper s' ≤ upper s)
narrowing t t' n =
    rw (lower_is t, lower_is t', upper_is t, upper_is t')
    (law.narrowed_lower (ranges_kept t) (ranges_kept t') n, law.narrowed_upper (ranges_kept t) (ranges_kept t') n)

-- ── The records that demands 2 and 3 speak of ───────────────────────────────────────────────

-- Every value of the record's type with no refusal, and what is read from an accepted block.
pub value_accepted : (s : Ship) (vs : List Val) → shadow ((row the_type).own_val s vs) → refusal_of s ≡ None → AcceptedRecord s
value_accepted s vs g e = record { entries = all_entries s vs g; none = e }

pub block_record_accepted : (b : List ℕ) → read_refusal b ≡ None → AcceptedRecord (ship_in b)
unfolding ship_in ship_from build_from
block_record_accepted b e = record { entries = record { engines = refl; gear = refl }; none = record_accepted b e }

-- ── Ice classes: document 02, Req 01 ────────────────────────────────────────────────────────

-- Stored ones keep their figure: 0 and 1, the two that were taken, are taken still, with the f_m that they had.
pub ice_kept : (ice : ℕ) → ice ≤ 1 → (ice_refused ice ≡ false) × (f_m EEXI (ice_of ice) ≡ if (eqb ice 1) 105 100)
unfolding f_m strengthened
ice_kept zero h = (refl, refl)
ice_kept (suc zero) h = (refl, refl)
ice_kept (suc (suc ice)) h = absurd (omega (arith, h))

-- 2 is IB or IC, whose f_m is 1; refusal 12 is given above 2.
pub ice_added : (ice_of 2 ≡ IB_or_IC) × (f_m EEXI IB_or_IC ≡ 100)
unfolding f_m strengthened
ice_added = (refl, refl)

pub ice_above : (ice : ℕ) → ice_refused ice ≡ true ↔ 2 < ice
ice_above ice = (ltb-true 2 ice, lt-ltb 2 ice)

-- ── A trial at rated power: document 02, Req 02 ─────────────────────────────────────────────

-- 1 raised to any power is 1, on both sides of a formula.
pub one_raised : {side : Side} {a : Formula} (e : Frac) → bounds side a (1 // 1) → bounds side (a ↑ e) (1 // 1)
one_raised = power_of_one

-- So promise the rules of powers, for every exponent that is taken, and of cube roots, at both ends.
pub power_one : {a p q : ℕ} → Raisable a a p q → power_of a a p q ≡ one
power_one h = (power_law h).of_one refl

pub root_one : {n : ℕ} → Moderate n n → ((cube_root_of n n).low ≡ (cube_root_of n n).scale) × ((cube_root_of n n).high ≡ (cube_root_of n n).scale)
root_one h = (cube_root_of_is h).of_one refl

-- And a trial at the sum of P_ME is answered as the same record with its speed declared, of every type, whatever f_c, and with ranges of consumption.
pub declared_figures : (s : Ship) → figures (declared_record s) ≡ declaring (range_of s.speed) (figures s)
unfolding figures method_of
declared_figures s = refl

-- The record with its speed declared is accepted too.
module _ {s : Ship} (t : AcceptedRecord s) (most : SpeedAsRecorded (most_favourable (figures s)) s.speed.high) (least : SpeedAsRecorded (least_favourable (figures s)) s.speed.low) where
  pub declared_too : AcceptedRecord (declared_record s)
  unfolding figures ship_at
  declared_too =
      let p = s.particulars in
      let sailed = recorded_sailed high p.method (range_of s.speed) p.trial (numbers_accepted s t.none).speed.method most in
      record { entries = record { engines = t.entries.engines; gear = t.entries.gear }; none = declared_accepted s sailed t.none }

  same_lower : lower_of (most_favourable (figures s)) ≡ lower_of (most_favourable (figures (declared_record s)))
  unfolding ship_at method_at
  same_lower = rw (declared_figures s) (law.as_declared (most_favourable (figures s)) s.speed.high (law.speed_recorded false (ranges_kept t) most)).0

  same_upper : upper_of (least_favourable (figures s)) ≡ upper_of (least_favourable (figures (declared_record s)))
  unfolding ship_at method_at
  same_upper = rw (declared_figures s) (law.as_declared (least_favourable (figures s)) s.speed.low (law.speed_recorded true (ranges_kept t) least)).1

  pub as_if_declared : answer_of s ≡ answer_of (declared_record s)
  unfolding index_of
  as_if_declared =
      record_bounded s t.none
      ∙ ap₂ {C = Answer} (λ l u. Ok (record { lower = l; upper = u })) same_lower same_upper
      ∙ sym (record_bounded (declared_record s) declared_too.none)

-- ── General cargo, cranes, common structural rules, layout 2: document 02, Req 03 ───────────

-- 3 accepts layouts 1 and 2; 5 accepts types 1 to 7 in both, and 8 in layout 2 alone.
pub layouts : (layout : ℕ) → layout_refused layout ≡ false ↔ Within 1 2 layout
layouts layout = (inside_of 1 2 layout, λ w. rw (le-ltb layout 1 w.least, le-ltb 2 layout w.most))

pub seven_in_both : (layout kind : ℕ) → kind ≤ 7 → type_refused layout kind ≡ outside 1 8 kind
seven_in_both = alike.seven_in_both

pub eight_in_2 : (layout : ℕ) → type_refused layout 8 ≡ false ↔ layout ≡ 2
eight_in_2 layout = (λ e. eqb-true layout 2 (not-false (eqb layout 2) e), λ e. rw (eq-eqb layout 2 e))

-- Without a lightweight f_i is 1, and without cranes f_l is.
pub no_lightweight : (kind : Kind) (dwt : Deadweight) → 0 < dwt.tonnes → Enclosed (f_i kind dwt 0) (1 // 1) (1 // 1)
no_lightweight = f_i_none

pub no_cranes : (s : Particulars) → 0 < s.deadweight.tonnes → s.cranes ≡ [] → Enclosed (f_l s.kind s) (1 // 1) (1 // 1)
no_cranes s = f_l_none s.kind s

-- A ship of types 1 to 7 with none of what layout 2 adds has the same answer in both layouts, a refusal too.
pub same_in_both : (s : Ship) → s.particulars.kind ≤ 7 → s.particulars.build ≡ no_build → answer_of (in_layout 1 s) ≡ answer_of (in_layout 2 s)
unfolding answer_of
same_in_both s h e = ap₂ {C = Answer} (λ r f. unless r (index_of f)) (alike.refused_alike s h e) (alike.figures_alike s)

-- ── New ships, the EEDI in both editions: document 02, Req 06 ───────────────────────────────

-- Byte 141 chooses: 0 EEXI, 1 the first edition, 2 the amended. In layout 1 every ship is EEXI.
pub edition_numbers : (edition_of 0 ≡ EEXI) × (edition_of 1 ≡ EEDI_first) × (edition_of 2 ≡ EEDI_amended)
edition_numbers = (refl, refl, refl)

pub layout_1_EEXI : {s : Ship} → AcceptedRecord s → s.particulars.layout ≡ 1 → (figures s).ship.edition ≡ EEXI
unfolding figures
layout_1_EEXI {s} t h = ap edition_of (editions.older s t.none h)

-- MEPC.308(73) alone has no f_m, whatever the ice class; as amended it has that of the EEXI.
pub f_m_of_editions : (ice : IceClass) → (f_m EEDI_first ice ≡ 100) × (f_m EEDI_amended ice ≡ f_m EEXI ice)
f_m_of_editions = rules.f_m_of_editions

module _ {s : Ship} (t : AcceptedRecord s) (new : (figures s).ship.edition ≡ EEXI → ⊥) where
  -- An accepted EEDI has no limiter, a source for every consumption, and a declared speed.
  pub new_ship : NewShip (figures s)
  unfolding figures
  new_ship = editions.new_ship s t.none (λ z. new (ap edition_of z)) t.entries.engines

  -- So P_ME of every engine, of every ship inside her ranges, is 75 % of MCR.
  pub new_power : {f : Figures ℕ} → Inside (figures s) f → Each (λ e. P_ME e.mcr e.limit ≡ 75 * e.mcr) f.engines
  new_power = editions.full_power new_ship

  -- And no consumption that stands in for one counts: with any other number for 190 and 215 the emissions are the same.
  pub no_stand_in : {f : Figures ℕ} → Inside (figures s) f → (x y : ℕ)
      → Each (λ e. emission x e.uses ≡ emission y e.uses) f.engines × (emission x f.auxiliary_uses ≡ emission y f.auxiliary_uses)
  no_stand_in = editions.own_emissions new_ship

  -- Of types 2 to 7 without ranges, light vehicle carriers too, the bounds are the exact EEDI rounded down and up.
  module _ {f : Figures ℕ} (one : StandsFor (figures s) f) (cargo : (figures s).ship.kind ≡ bulk → ⊥) (other : (figures s).ship.kind ≡ general → ⊥) where
    new_fractions : OnlyFractions f
    unfolding ship_at method_at
    new_fractions =
        rw (← stands_most one)
        (record { v = new_ship.speed.high; speed = rw new_ship.method without_trial; not_general = other; full = f_c_new (figures s).ship.kind (figures s).ship new cargo })

    pub new_rounded_down : (n : ℕ) → bounds below (index f) (n // 1000000) → n ≤ lower s
    new_rounded_down = rounded_down t one new_fractions

    pub new_rounded_up : (n : ℕ) → bounds above (index f) (n // 1000000) → upper s ≤ n
    new_rounded_up = rounded_up t one new_fractions

  -- She is accepted in every edition, so that what follows speaks of her in each.
  pub every_edition : (edition : ℕ) → edition ≤ 2 → AcceptedRecord (in_edition edition s)
  unfolding figures
  every_edition edition listed =
      record {
        entries = record { engines = t.entries.engines; gear = t.entries.gear };
        none = editions.every_edition s t.none (λ z. new (ap edition_of z)) edition listed;
      }

-- The same record in another ice class or edition has that one, and in her own she is herself.
pub class_changed : (s : Ship) (ice : ℕ) → ((in_class ice s).particulars.ice ≡ ice) × (in_class s.particulars.ice s ≡ s)
class_changed s ice = (refl, refl)

pub edition_changed : (s : Ship) (edition : ℕ) → ((in_edition edition s).particulars.build.edition ≡ edition) × (in_edition s.particulars.build.edition s ≡ s)
edition_changed s edition = (refl, refl)

-- Edition 1's answer doesn't depend on the ice class.
pub first_any_class : (s : Ship) (ice : ℕ) → s.particulars.build.edition ≡ 1 → s.particulars.ice ≤ 2 → ice ≤ 2 → answer_of (in_class ice s) ≡ answer_of s
unfolding answer_of figures
first_any_class s ice first own listed =
    let edition = s.particulars.build.edition in
    ap₂
    {C = Answer}
    unless
    (editions.class_alike s ice listed own)
    (bounds_under (edition_of edition) (ice_of ice) (figures s) (editions.first_without edition ice first ∙ sym (editions.first_without edition s.particulars.ice first)) (λ k. refl))

-- The same record in two editions that accept it, which give it one f_m; no light vehicle carrier.
module _ (s : Ship) (edition edition' : ℕ) (t : AcceptedRecord (in_edition edition s)) (t' : AcceptedRecord (in_edition edition' s)) (full : NotLightVehicles s) where
  one_f_m : f_m (edition_of edition) (ice_of s.particulars.ice) ≡ f_m (edition_of edition') (ice_of s.particulars.ice)
      → answer_of (in_edition edition s) ≡ answer_of (in_edition edition' s)
  unfolding figures
  one_f_m e =
      record_bounded _ t.none
      ∙ ap {B = Answer} Ok (bounds_under (edition_of edition) (ice_of s.particulars.ice) (figures (in_edition edition' s)) e
      (λ k. vehicles_full (edition_of edition) _ _ (full k) ∙ sym (vehicles_full (edition_of edition') _ _ (full k))))
      ∙ sym (record_bounded _ t'.none)

  -- Where her ice class is not 1 she has the same bounds in both.
  pub same_in_editions : (s.particulars.ice ≡ 1 → ⊥) → answer_of (in_edition edition s) ≡ answer_of (in_edition edition' s)
  same_in_editions plain =
      let ice = s.particulars.ice in
      one_f_m (editions.others_without edition ice plain ∙ sym (editions.others_without edition' ice plain))

-- And whatever her ice class, the amended EEDI is the EEXI.
pub amended_as_EEXI : (s : Ship) → AcceptedRecord (in_edition 2 s) → AcceptedRecord (in_edition 0 s) → NotLightVehicles s → answer_of (in_edition 2 s) ≡ answer_of (in_edition 0 s)
amended_as_EEXI s t t' full = one_f_m s 2 0 t t' full (f_m_of_editions (ice_of s.particulars.ice)).1

-- ── A plain cube root beside the quick one: document 02, Req 10 ─────────────────────────────

-- Both give the same whole root of every number: what they promise has one answer.
pub same_root : {n r s : ℕ} → Root 3 n r → Root 3 n s → r ≡ s
same_root = root_unique

-- So the cube root of a ratio is the same with either.
pub same_ratio : {n d : ℕ} (one other : ℕ → ℕ) → ((x : ℕ) → x < 2 ^ 64 → Root 3 x (one x)) → ((x : ℕ) → x < 2 ^ 64 → Root 3 x (other x)) → Moderate n d → rooted_by one n d ≡ rooted_by other n d
same_ratio one other p q h = by_any_root h one p ∙ sym (by_any_root h other q)

-- And so are speed and index, which take cube roots of ratios alone: each is promised by a name that no way to a root stands in.
pub same_speeds : (s : Ship) {a b : SpeedBounds} → a ≡ speeds_of (figures s) → b ≡ speeds_of (figures s) → a ≡ b
same_speeds s p q = p ∙ sym q

pub same_answer : (s : Ship) {a b : Answer} → a ≡ answer_of s → b ≡ answer_of s → a ≡ b
same_answer s p q = p ∙ sym q

-- ── Speed by itself: document 02, Req 09 ────────────────────────────────────────────────────

-- One step after the other gives exactly the answer of one call, a refusal too: of every record and of all bytes.
pub one_after_the_other : (s : Ship) → then (speeds_answer s) (index_answer s) ≡ answer_of s
unfolding speeds_answer index_answer answer_of
one_after_the_other s = step.joined (refusal_of s) s

pub one_after_the_other_block : (b : List ℕ) → then (speeds_answer_of_block b) (index_answer_of_block b) ≡ answer_of_block b
unfolding speeds_answer_of_block index_answer_of_block answer_of_block
one_after_the_other_block b = step.joined (read_refusal b) (ship_in b)

-- The refusals keep their order: where the record has one, the first rule broken, both steps give it, whatever is handed in.
pub both_refused : (s : Ship) {r : Refusal} → refusal_of s ≡ Some r → (speeds_answer s ≡ Err r) × ((v : SpeedBounds) → index_answer s v ≡ Err r)
unfolding speeds_answer index_answer
both_refused s e = step.both_refused s e

-- Where it has none the first gives its speed bounds, and the second the index from these; handed any others it refuses with 13.
pub speed_settled : (s : Ship) → refusal_of s ≡ None → speeds_answer s ≡ Ok (own_speeds s)
unfolding speeds_answer
speed_settled s e = rw e

pub index_own : (s : Ship) → refusal_of s ≡ None → index_answer s (own_speeds s) ≡ Ok (index_of (figures s))
unfolding index_answer
index_own s e = step.index_own s e

pub index_other : (s : Ship) (v : SpeedBounds) → refusal_of s ≡ None → (v ≡ own_speeds s → ⊥) → index_answer s v ≡ Err refusal.Speed
unfolding index_answer
index_other s v e h = step.index_other s v e h

-- So no index ever comes from another ship's speed.
pub no_other_index : (s : Ship) (v : SpeedBounds) (i : Index) → index_answer s v ≡ Ok i → (v ≡ own_speeds s) × (answer_of s ≡ Ok i)
unfolding index_answer answer_of
no_other_index s = step.no_other_index (refusal_of s) s

pub no_other_index_block : (b : List ℕ) (v : SpeedBounds) (i : Index) → index_answer_of_block b v ≡ Ok i → (v ≡ own_speeds (ship_in b)) × (answer_of_block b ≡ Ok i)
unfolding index_answer_of_block answer_of_block
no_other_index_block b = step.no_other_index (read_refusal b) (ship_in b)

-- An accepted block is answered as its record is, in both steps, and a refused one by its refusal.
pub steps_as_record : (b : List ℕ) → read_refusal b ≡ None
    → (speeds_answer_of_block b ≡ speeds_answer (ship_in b)) × ((v : SpeedBounds) → index_answer_of_block b v ≡ index_answer (ship_in b) v)
unfolding speeds_answer_of_block speeds_answer index_answer_of_block index_answer
steps_as_record b e =
    let s = ship_in b in
    let k = e ∙ sym (record_accepted b e) in
    (ap (λ r. speeds_by r s) k, λ v. ap (λ r. index_by r s v) k)

pub steps_refused : (b : List ℕ) {r : Refusal} → read_refusal b ≡ Some r
    → (speeds_answer_of_block b ≡ Err r) × ((v : SpeedBounds) → index_answer_of_block b v ≡ Err r)
unfolding speeds_answer_of_block index_answer_of_block
steps_refused b e = step.both_refused (ship_in b) e

module _ {s : Ship} (t : AcceptedRecord s) where
  -- Each pair encloses the exact speed of its own ship, in millionths of a knot, and differs by at most a millionth of the upper one plus two.
  pub most_speed : Speed (speed (most_favourable (figures s))) (own_speeds s).most
  unfolding speeds_of
  most_speed = law.speed_is false (ranges_kept t)

  pub least_speed : Speed (speed (least_favourable (figures s))) (own_speeds s).least
  unfolding speeds_of
  least_speed = law.speed_is true (ranges_kept t)

  -- Without ranges of them both are one: her own.
  pub one_speed : {f : Figures ℕ} → StandsFor (figures s) f → own_speeds s ≡ record { most = speed_of f; least = speed_of f }
  unfolding speeds_of
  one_speed one = rw (stands_most one, stands_least one)

  -- With a declared speed no ship inside the ranges is slower than the least favourable one's lower bound or faster than the most favourable
  -- one's upper bound.
  pub speeds_inside : {f : Figures ℕ} {v : Range} → (figures s).method ≡ declared v → Inside (figures s) f
      → Enclosed (speed f) ((own_speeds s).least.lo // 1000000) ((own_speeds s).most.hi // 1000000)
  speeds_inside known i =
      enclosed_between (no_slower i (ranges_kept t).settled) (no_faster i (ranges_kept t).settled) least_speed.encloses most_speed.encloses

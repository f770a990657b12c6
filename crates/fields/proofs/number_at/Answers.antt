-- `fields::number_at` meets its contract: what was read so far is the number in the last bytes.
-- Assumes nothing.
use Rattle.std.proofs.Common.{◌≡◌, ◌+◌, ◌-◌, ◌^◌, ◌<◌, length, get_or, take, drop, sym, ◌∙◌, arith, rules}
use Rattle.std.proofs.lemmas.List.{length-reverse, length_push}
use Rattle.std.proofs.lemmas.Iterator.Consumers.{YieldsList-turn, YieldsList-end}
use Rattle.std.proofs.lemmas.Iterator.Adapters.{YieldsList-from_rev_slice}
use Rattle.fields.proofs.Numbers.{each_byte, field_length, byte_before, number_none, number_again, number_room}
use Rattle.fields.proofs.number_at.Goals as goal
use Rattle.fields.proofs.number_at.Goals.{In-Some}

-- The byte of this turn.
here : (c : In-Some) → (length c.loop-byte.yielded < c.args.width) × (c.in-Some.byte.now ≡ get_or c.args.bytes.now (c.args.at + (c.args.width - 1 - length c.loop-byte.yielded)) 0)
here c =
    let a = c.args in
    let f = take a.width (drop a.at a.bytes.now) in
    byte_before a.bytes.now a.at a.width _ _ (omega arith)
    (YieldsList-turn (YieldsList-from_rev_slice f (search rules)) c.loop-byte.yielded _ c.loop-byte.yielded_by _ _ c.in-Some.byte c.in-Some.is c.next.ensures.steps)

-- What is read so far leaves room for the byte.
room : (c : In-Some) → c.loop-byte.n < 2 ^ 56
room c =
    let a = c.args in
    let bs = each_byte a.bytes.now (λ i. (c.type_inv.bytes i).fits) in
    number_room a.bytes.now a.at a.width _ c.loop-byte.n (here c).0 (omega arith) c.loop-byte.invariant bs (omega arith)

pub loop-byte-init : goal.loop-byte-init
loop-byte-init c = sym (number_none c.args.bytes.now _)

pub overflow_mul-n : goal.overflow_mul-n
overflow_mul-n c = omega (arith, room c)

pub overflow_add-n : goal.overflow_add-n
overflow_add-n c =
    let i = (goal.at.overflow_add-n c).In-Some in
    let h = here i in
    omega (arith, room i, h.1, c.from.ensures, c.type_inv.bytes (c.args.at + (c.args.width - 1 - length c.loop-byte.yielded)))

pub loop-byte-preserved : goal.loop-byte-preserved
loop-byte-preserved c =
    let a = c.args in
    let h = here (goal.at.loop-byte-preserved c).In-Some in
    let n = number_again a.bytes.now a.at a.width _ c.loop-byte.n h.0 (omega arith) c.loop-byte.invariant in
    rw (length_push c.loop-byte.yielded c.in-Some.byte, c.from.ensures, h.1) n

pub returns : goal.returns
returns c =
    let a = c.args in
    let f = take a.width (drop a.at a.bytes.now) in
    let t = YieldsList-end (YieldsList-from_rev_slice f (search rules)) c.loop-byte.yielded _ c.loop-byte.yielded_by _ _ c.in-None.is c.next.ensures.steps in
    let k : length c.loop-byte.yielded ≡ a.width = t.1 ∙ length-reverse f ∙ field_length a.bytes.now a.at a.width (omega arith) in
    let q : a.at + (a.width - a.width) ≡ a.at = omega arith in
    rw (k, q) at c.loop-byte.invariant

-- `plain_power::Pair::raise` meets its contract: what the digits still to come make of the running pair is the answer all along. Assumes nothing.
use mathlib.Core.Path.{◌≡◌, refl, ◌∙◌}
use Rattle.formula.specs.Formula.{below, above}
use Rattle.plain_power.specs.Steps.{lowest, digit_factor, means_of}
use Rattle.plain_power.proofs.Squares.{means_are}
use Rattle.plain_power.proofs.Digits.{none_held, lowest_factor, raise_next, raise_end}
use Rattle.plain_power.proofs.Pair.raise.Goals as goal

pub loop-init : goal.loop-init
loop-init c = record { norm = (none_held c.args.self c.requires).norm; to_come = refl }

pub loop-preserved : goal.loop-preserved
loop-preserved c =
    let s = c.loop in
    let start = c in
    let x = start.args.self in
    let digit : c.factor-y.result ≡ digit_factor x (lowest s.rest) = c.factor-y.ensures in
    let next : c.means-p.result ≡ means_of s.p c.factor-y.result = c.means-p.ensures in
    let norms = lowest_factor x s.rest start.requires in
    rw (next, digit)
    (record { norm = (means_are s.invariant.norm norms.norm).norm; to_come = raise_next x s.p s.rest s.counter c.loop-test.true ∙ s.invariant.to_come })

pub means-p-requires : goal.means-p-requires
means-p-requires c =
    let s = c.loop in
    let norms = lowest_factor _ s.rest c.requires in
    ((s.invariant.norm below, s.invariant.norm above), rw c.factor-y.ensures (norms.norm below, norms.norm above))

pub returns : goal.returns
returns c =
    let s = c.loop in
    raise_end _ _ s.rest s.counter c.loop-test.false ∙ s.invariant.to_come

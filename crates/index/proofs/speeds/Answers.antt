-- `index::speeds` meets its contract. Assumes nothing.
use mathlib.Core.Path.{◌≡◌, sym, ap, ◌∙◌}
use mathlib.Core.Bool.{true, false}
use borrow.Author.Tests.{eqb-true}
use Rattle.std.proofs.lemmas.Bool.{and_parts}
use Rattle.ship.specs.Figures.{figures}
use Rattle.plant.specs.Plant.{at_end}
use Rattle.index.specs.Attained.{speed_of, speeds_of}
use Rattle.index.proofs.Records.{asked, answered, one_speed}
use Rattle.index.proofs.speeds.Goals as goal
use Rattle.index.proofs.speeds.Goals.{After-speed-most}

most_is : (c : After-speed-most) → c.speed-most.result ≡ speed_of (at_end false (figures c.args.a.now.ship))
most_is c = rw (c.powers-power.ensures, c.method-method.ensures _, c.kind-kind.ensures) at c.speed-most.ensures ∙ answered c.args.a.now false

pub speed-most-requires : goal.speed-most-requires
speed-most-requires c = rw (c.powers-power.ensures, c.method-method.ensures _, c.kind-kind.ensures) (asked c.args.a.now false)

pub returns-then-s-power : goal.returns-then-s-power
unfolding speeds_of
returns-then-s-power c =
    let p = c.powers-power.ensures in
    let k = and_parts _ _ c.if-s-power.true in
    let one = one_speed c.args.a.now (eqb-true _ _ k.0) (sym (ap (λ r. r.low) p) ∙ eqb-true _ _ k.1 ∙ ap (λ r. r.high) p) in
    rw (most_is (goal.at.returns-then-s-power c).After-speed-most, one)

pub speed-least-requires : goal.speed-least-requires
speed-least-requires c = rw (c.powers-power.ensures, c.method-method.ensures _, c.kind-kind.ensures) (asked c.args.a.now true)

pub returns : goal.returns
unfolding speeds_of
returns c =
    rw (
      most_is (goal.at.returns c).After-speed-most,
      rw (c.powers-power.ensures, c.method-method.ensures _, c.kind-kind.ensures) at c.speed-least.ensures ∙ answered c.args.a.now true,
    )

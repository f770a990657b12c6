-- `rules::trial_broken` meets its contract.
-- Assumes nothing.
use Rattle.std.proofs.Common.{◌≡◌, length, rules}
use Rattle.ship.specs.Figures.{kinds, kind_of}
use Rattle.ship.specs.Kinds.{type_of}
use Rattle.ship.specs.Rules.{outside, trial_refused}
use Rattle.ship.proofs.Tests.{neither, inside, engines_inside}
use Rattle.rules.proofs.trial_broken.Goals as goal

pub power_sums-sums-requires : goal.power_sums-sums-requires
power_sums-sums-requires c =
    let k = engines_inside c.args.p.now.used c.args.es.now c.requires.2 in
    (k.0.most, k.1)

pub unwrap-kind-requires : goal.unwrap-kind-requires
unwrap-kind-requires c =
    let n = c.args.p.now.kind in
    c.try_from.ensures.0.1 (inside 1 (length kinds) n (neither (outside 1 (length kinds) n) _ c.requires.0).0)

pub returns : goal.returns
unfolding trial_refused
returns c =
    let kind : type_of c.unwrap-kind.result ≡ kind_of c.args.p.now.kind = search rules in
    rw (c.is_apart-load_apart.ensures, c.capacity_of.ensures.0, kind, c.is_apart-power_apart.ensures, c.power_sums-sums.ensures.low_value.0)

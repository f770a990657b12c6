-- `fields::all_zero` meets its contract.
-- Assumes nothing.
use Rattle.std.proofs.Common.{◌≡◌, rules, eqb, refl, subst}
use Rattle.std.proofs.lemmas.Fn.{fold_over, slice_gives, fronts}
use Rattle.fields.specs.Numbers.{value_of}
use Rattle.fields.proofs.Numbers.{zero_again}
use Rattle.fields.proofs.all_zero.Goals as goal

pub returns : goal.returns
unfolding value_of
returns c =
    subst (λ l. c.fold.result ≡ eqb (value_of l) 0) c.iter.ensures.rest
    (fold_over fronts (λ y. y.now) _ (λ ys z. z ≡ eqb (value_of ys) 0) _ (λ ys a x b f' j k. let e = zero_again ys x.now in search rules)
    _ _ _ _ (slice_gives c.iter.result) refl c.fold.ensures.ran)

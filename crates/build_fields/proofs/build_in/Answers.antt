-- `build_fields::build_in` meets its contract.
-- Assumes nothing.
use mathlib.Core.Path.{◌≡◌, sym, ap, ◌∙◌}
use borrow.Author.Tests.{eqb-true}
use Rattle.fields.specs.Numbers.{number_at}
use Rattle.fields.specs.Runs.{numbers_at, widths_of}
use Rattle.fields.proofs.Runs.{zero_run}
use Rattle.ship.specs.Record.{no_build}
use Rattle.build_fields.specs.Fields.{front, cranes, sizes, added, build_from}
use Rattle.build_fields.proofs.build_in.Goals as goal
use Rattle.build_fields.proofs.build_in.Goals.{Then-all_zero}

-- The 56 bytes are one number, which is 0.
zero_bytes : (c : Then-all_zero) → number_at c.args.block.now 132 56 ≡ 0
unfolding number_at
zero_bytes c = eqb-true _ 0 (sym c.all_zero.ensures ∙ c.if-all_zero.true)

pub returns-then-all_zero : goal.returns-then-all_zero
unfolding build_from added front cranes sizes
returns-then-all_zero c =
    let b = c.args.block.now in
    c.nothing_added.ensures ∙ sym (ap build_from (zero_run b 132 (widths_of (added no_build)) (zero_bytes (goal.at.returns-then-all_zero c).Then-all_zero)))

pub returns : goal.returns
unfolding build_from numbers_at added front cranes sizes
returns c =
    let d = c in
    let c3 = d in
    let g = c3 in
    λ i. record {
      lightweight = c.number_at-5.ensures i;
      hull = record { volume = c3.number_at.ensures i; length = c3.number_at-2.ensures i; breadth = c3.number_at-3.ensures i; draught = d.number_at-4.ensures i };
      cranes = c.number_at-6.ensures i;
      gear = g.gear_in-gear.ensures i;
      edition = c.number_at-7.ensures i;
    }

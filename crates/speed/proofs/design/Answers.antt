-- `speed::design` meets its contract. Assumes nothing.
use Prim.Native.Nat.{◌*◌}
use native.Mathlib.Omega.{arith}
use Rattle.exact.specs.Index.{Capacity, k}
use Rattle.ship.specs.Accepted.{Within}
use Rattle.ship.specs.Figures.{deadweight_of}
use Rattle.ship.specs.Kinds.{type_of}
use Rattle.speed.specs.Speeds.{Fives, design_of}
use Rattle.speed.proofs.Trials.{trial_moderate}
use Rattle.speed.proofs.Designs.{k_within, k_root, fives, design_parts}
use Rattle.speed.proofs.design.Goals as goal
use Rattle.speed.proofs.design.Goals.{Start}

module _ (s : Start) where
  k_fits : Within 90 100 (k (type_of s.args.kind) (deadweight_of s.args.deadweight))
  k_fits = k_within (type_of s.args.kind) (deadweight_of s.args.deadweight) s.requires.power_bound.3

  near : Fives (s.args.trial.deadweight.tonnes * 100) (Capacity (type_of s.args.kind) (deadweight_of s.args.deadweight))
  near = fives (deadweight_of s.args.trial.deadweight) (type_of s.args.kind) (deadweight_of s.args.deadweight) s.requires.power_bound.1 s.requires.power_bound.2

pub root_of_k-requires : goal.root_of_k-requires
root_of_k-requires c = rw c.k_of.ensures (k_fits (goal.at.root_of_k-requires c).Start)

pub overflow_mul-loaded : goal.overflow_mul-loaded
overflow_mul-loaded c = omega (arith, (near (goal.at.overflow_mul-loaded c).Start).a_high)

pub invariant_of-loaded : goal.invariant_of-loaded
invariant_of-loaded c =
    let s = (goal.at.invariant_of-loaded c).Start in
    record {
      slow = c.requires.sailed.0;
      root = rw (c.root_of_k.ensures, c.k_of.ensures) (k_root _ (k_fits s)).size;
      fives = rw c.capacity_of.ensures.0 (near s);
    }

pub speed_from-requires : goal.speed_from-requires
speed_from-requires c =
    let r = c.requires in
    let parts = design_parts (deadweight_of c.args.trial.deadweight) (type_of c.args.kind) (deadweight_of c.args.deadweight) r.power_bound.1 r.power_bound.2 r.sailed.0 r.power_bound.3 in
    (rw (c.parts.ensures, c.root_of_k.ensures, c.k_of.ensures, c.capacity_of.ensures.0) parts.parted, trial_moderate r.sailed.1.least r.power_bound.0 r.sailed.2)

pub returns : goal.returns
unfolding design_of
returns c = rw (c.speed_from.ensures, c.parts.ensures, c.root_of_k.ensures, c.k_of.ensures, c.capacity_of.ensures.0)

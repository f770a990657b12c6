-- `index::main_engines` meets its contract. Assumes nothing.
use Prim.Native.Nat.{ℕ, ◌*◌, ◌^◌, ◌≤◌, ◌<◌}
use native.Mathlib.Nat.{lt_of_le_of_lt, mul-le-mul}
use mathlib.Core.Path.{refl, ap}
use lib.Dec.{lit<}
use Rattle.ship.specs.Kinds.{type_of}
use Rattle.power.specs.Numbers.{unit}
use Rattle.correction.proofs.Laws.{general_capped}
use Rattle.index.specs.Attained.{main_of}
use Rattle.index.proofs.main_engines.Goals as goal

-- At most 6 · 10^15 times 2^30.
fits : {n f : ℕ} → n ≤ 6000000000000000 → f ≤ unit → n * f < 2 ^ 93
fits h k = lt_of_le_of_lt (mul-le-mul h k) (lit< tt)

pub general-f-requires : goal.general-f-requires
general-f-requires c = (c.requires.fast.0, c.requires.fast.1 (ap type_of c.in-General.is))

pub scaled_down-requires : goal.scaled_down-requires
scaled_down-requires c = fits c.requires.low_bound.0 (rw c.general-f.ensures (general_capped c.args.v _).0)

pub scaled_up-requires : goal.scaled_up-requires
scaled_up-requires c = fits c.requires.low_bound.1 (rw c.general-f.ensures (general_capped c.args.v _).1)

pub returns-in-General : goal.returns-in-General
unfolding main_of
returns-in-General c = rw (c.in-General.is, c.scaled_down.ensures, c.scaled_up.ensures, c.general-f.ensures) (record { low_value = refl; high_value = refl })

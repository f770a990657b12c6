-- `number::ratio::cube_root` meets its contract. Assumes nothing.
use mathlib.Core.Path.{◌≡◌, ◌∙◌}
use Prim.Native.Nat.{◌*◌, ◌^◌}
use native.Mathlib.Nat.{zero-lt-suc}
use Rattle.number.specs.Ratio.{RatioRoot}
use Rattle.number.proofs.Ratios.{ratio_one, shifted, units_divide}
use Rattle.number.proofs.ratio.cube_root.Goals as goal

pub cube_root_in_units-requires : goal.cube_root_in_units-requires
cube_root_in_units-requires c = units_divide c.requires c.digits_of.ensures (shifted c.digits_of.ensures.few)

pub returns : goal.returns
returns c =
    let count = c.digits_of in
    let made = c.cube_root_in_units in
    let units : made.result.scale ≡ 2 ^ count.result = made.ensures.units ∙ shifted count.ensures.few in
    let root : RatioRoot 3 (c.args.n * made.result.scale ^ 3) c.args.d made.result.low made.result.high = rw made.ensures.units made.ensures.root in
    record { digits = count.result; scaled = count.ensures; units = units; root = root; of_one = ratio_one (zero-lt-suc 2) c.requires.some root }

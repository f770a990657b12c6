-- `build_fields::write_newer` meets its contract.
-- Assumes nothing.
use mathlib.Core.Path.{refl}
use mathlib.Core.List.{[], ◌++◌}
use Rattle.fields.specs.Runs.{pack}
use Rattle.fields.proofs.Runs.{then_run, run_written}
use Rattle.build_fields.specs.Fields.{front, cranes, sizes, rest, added, newer}
use Rattle.build_fields.proofs.write_newer.Goals as goal

pub returns : goal.returns
unfolding newer added front cranes sizes pack
returns c =
    let c_sizes = c in
    let c_gear = c_sizes in
    let c_front = c_gear in
    let start = c_front in
    let b = start.args.b in
    let d = start.args.part.now in
    let s1 = then_run [] (front b) d 0 12 refl refl c_front.write_front.ensures in
    let s2 = then_run (front b) (cranes b.gear) d 12 32 refl s1 c_gear.write_gear.ensures in
    let s3 = then_run (front b ++ cranes b.gear) (sizes b.hull ++ rest) d 44 332 refl s2 c_sizes.write_sizes.ensures in
    run_written (newer b) d start.requires s3

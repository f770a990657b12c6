-- `layout::write_body` meets its contract.
-- Assumes nothing.
use mathlib.Core.Path.{refl}
use mathlib.Core.List.{[], ◌++◌}
use Rattle.fields.specs.Runs.{pack}
use Rattle.fields.proofs.Runs.{then_run, run_written}
use Rattle.build_fields.specs.Fields.{front, cranes, sizes, added, newer}
use Rattle.layout.specs.Layout.{head, entry, entries, fields, body}
use Rattle.layout.proofs.write_body.Goals as goal

pub returns : goal.returns
unfolding body fields head entries entry front cranes sizes added newer pack
returns c =
    let c_newer = c in
    let c_entries = c_newer in
    let c_head = c_entries in
    let start = c_head in
    let s = start.args.s in
    let d = start.args.part.now in
    let s1 = then_run [] (head s) d 0 52 refl refl c_head.write_head.ensures in
    let s2 = then_run (head s) (entries s.engines) d 52 80 refl s1 c_entries.write_entries.ensures in
    let s3 = then_run (head s ++ entries s.engines) (newer s.particulars.build) d 132 376 refl s2 c_newer.write_newer.ensures in
    run_written (fields s) d start.requires s3

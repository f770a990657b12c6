-- The numbers of an accepted record fit their fields.
-- Assumes nothing.
use Prim.Native.Nat.{ℕ, ◌<◌}
use mathlib.Core.Path.{◌≡◌, refl}
use mathlib.Core.Bool.{Bool, true, false}
use native.Mathlib.Omega.{arith}
use borrow.Author.Tests.{ltb-true, ltb-false}
use lib.Dec.{ltb, lit<}
use lib.ListN.{get_or}
use Rattle.exact.proofs.Rules.{Capacity_between}
use Rattle.fields.proofs.Runs.{Fit, none, ◌&◌, fit_append}
use Rattle.ship.specs.Record.{no_engine}
use Rattle.ship.specs.Figures.{kind_of, deadweight_of}
use Rattle.ship.specs.declared.Engine.{Engine}
use Rattle.ship.specs.declared.Ship.{Ship}
use Rattle.ship.proofs.Tests.{limit_most}
use Rattle.ship.proofs.Right.{Entry, AcceptedNumbers}
use Rattle.build_fields.proofs.Fitting.{newer_fits}
use Rattle.layout.specs.Layout.{head, entry, entries, fields}

-- ── An engine entry ─────────────────────────────────────────────────────────────────────────

used_fits : (m : ℕ) (e : Engine) → Entry m e → Fit (entry e)
unfolding entry
used_fits m e n =
    let z = n.sized in
    let u = n.uses in
    omega (arith, z.low.most)
    & omega (arith, z.high.most)
    & omega (arith, limit_most e z, z.low.most)
    & omega (arith, u.most.0)
    & omega (arith, u.most.1)
    & omega (arith, u.fuel)
    & omega (arith, u.source.most)
    & lit< tt
    & none

unused_fits : Fit (entry no_engine)
unfolding entry
unused_fits = lit< tt & lit< tt & lit< tt & lit< tt & lit< tt & lit< tt & lit< tt & lit< tt & none

entry_fits : (s : Ship) → AcceptedNumbers s → (i : ℕ) → i < 4 → Fit (entry (get_or s.engines i no_engine))
entry_fits s r i h = go (ltb i s.particulars.used) refl
  where
    go : (t : Bool) → ltb i s.particulars.used ≡ t → Fit (entry (get_or s.engines i no_engine))
    go true e = used_fits s.particulars.method _ (r.entries i (ltb-true i s.particulars.used e))
    go false e = rw (r.others i h (ltb-false i s.particulars.used e)) unused_fits

-- ── The parts of the table ──────────────────────────────────────────────────────────────────

head_fits : (s : Ship) → AcceptedNumbers s → Fit (head s)
unfolding head
head_fits s r =
    let c = (Capacity_between (kind_of s.particulars.kind) (deadweight_of s.particulars.deadweight)).1 in
    let u = r.auxiliary_uses in
    omega (arith, r.layout.most)
    & omega (arith, r.kind.most)
    & omega (arith, r.speed.method.most)
    & omega (arith, r.imo.most)
    & omega (arith, r.deadweight.most)
    & omega (arith, r.gross.most)
    & omega (arith, r.cargo.most)
    & omega (arith, r.speed.most.0)
    & omega (arith, r.speed.most.1)
    & omega (arith, r.trial.power)
    & omega (arith, r.trial.load, c, r.deadweight.most)
    & omega (arith, r.auxiliary.most)
    & omega (arith, r.ice)
    & omega (arith, r.used.most)
    & omega (arith, u.source.most)
    & omega (arith, r.table.most)
    & omega (arith, u.most.0)
    & omega (arith, u.most.1)
    & omega (arith, u.fuel)
    & lit< tt
    & none

pub fits : (s : Ship) → AcceptedNumbers s → Fit (fields s)
unfolding fields entries
fits s r =
    let e = entry_fits s r in
    let four = fit_append (e 0 (lit< tt)) (fit_append (e 1 (lit< tt)) (fit_append (e 2 (lit< tt)) (e 3 (lit< tt)))) in
    fit_append (head_fits s r) (fit_append four (newer_fits s.particulars.build r.build r.edition))

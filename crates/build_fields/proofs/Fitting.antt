-- What rules 18 and 19 leave fits its fields.
-- Assumes nothing.
use Prim.Native.Nat.{ℕ, ◌≤◌, ◌<◌}
use mathlib.Core.Path.{◌≡◌, refl}
use mathlib.Core.Bool.{Bool, true, false}
use native.Mathlib.Omega.{arith}
use borrow.Author.Tests.{ltb-true, ltb-false}
use lib.Dec.{ltb, lit<}
use lib.ListN.{get_or}
use Rattle.fields.proofs.Runs.{Fit, none, ◌&◌, fit_append}
use Rattle.ship.specs.Record.{no_crane}
use Rattle.ship.specs.Figures.{last_edition}
use Rattle.ship.specs.declared.Build.{Build}
use Rattle.ship.proofs.Right.{Built}
use Rattle.build_fields.specs.Fields.{front, crane, cranes, sizes, added, newer}

-- A crane entry, used or not.
crane_fits : {kind : ℕ} (b : Build) → Built kind b → (i : ℕ) → i < 8 → Fit (crane (get_or b.gear i no_crane))
crane_fits b r i h = go (ltb i b.cranes) refl
  where
    go : (t : Bool) → ltb i b.cranes ≡ t → Fit (crane (get_or b.gear i no_crane))
    go true e = let c = r.used i (ltb-true i b.cranes e) in omega (arith, c.swl.most) & omega (arith, c.reach.most) & none
    go false e = rw (r.others i h (ltb-false i b.cranes e)) (lit< tt & lit< tt & none)

pub newer_fits : {kind : ℕ} (b : Build) → Built kind b → b.edition ≤ last_edition → Fit (newer b)
unfolding newer added front cranes sizes
newer_fits b r listed =
    let c = crane_fits b r in
    let s = r.small in
    let gear =
    fit_append (c 0 (lit< tt)) (fit_append (c 1 (lit< tt)) (fit_append (c 2 (lit< tt)) (fit_append (c 3 (lit< tt)) (fit_append (c 4 (lit< tt)) (fit_append (c 5 (lit< tt)) (fit_append (c 6 (lit< tt)) (c 7 (lit< tt)))))))) in
    fit_append
    (fit_append (omega (arith, r.lightweight) & omega (arith, s.volume) & omega (arith, r.cranes) & omega (arith, listed) & lit< tt & none)
    (fit_append gear (omega (arith, s.length) & omega (arith, s.breadth) & omega (arith, s.draught) & none)))
    (lit< tt & none)

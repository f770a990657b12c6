-- `root::square_root_from` meets its contract: r never falls below the root, and where it isn't above it, it is the root. Assumes nothing.
use native.Mathlib.Omega.{arith}
use Rattle.root.proofs.Newton.{newton_square, square_falls, above_root}
use Rattle.root.proofs.square_root_from.Goals as goal

pub loop-r-preserved : goal.loop-r-preserved
loop-r-preserved c = (omega (arith, square_falls _ _ c.loop-r-test.true), newton_square _ _ (above_root _ _ _ c.loop-r-test.true))

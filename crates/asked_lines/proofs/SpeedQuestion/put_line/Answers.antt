-- `Speed`'s `put_line` meets its contract.
-- Assumes nothing.
use mathlib.Core.Path.{sym, ◌∙◌}
use native.Mathlib.Omega.{arith}
use Rattle.decimal.proofs.Putting.{put_as}
use Rattle.asked_lines.proofs.Answered.{speeds_whole, line_speeds, line_speed_refusal}
use Rattle.asked_lines.proofs.SpeedQuestion.put_line.Goals as goal

pub number_at-requires : goal.number_at-requires
number_at-requires c =
    let e = speeds_whole _ _ (sym c.in-Ok.is ∙ c.speeds_of_block.ensures) in
    (omega arith, omega arith)

pub returns-in-Ok-clause-put : goal.returns-in-Ok-clause-put
returns-in-Ok-clause-put c =
    let e = sym c.in-Ok.is ∙ c.speeds_of_block.ensures in
    put_as (line_speeds _ _ _ _ e c.number_at.ensures) c.put_speeds.ensures.put

pub returns-in-Err-clause-put : goal.returns-in-Err-clause-put
returns-in-Err-clause-put c =
    let e = sym c.in-Err.is ∙ c.speeds_of_block.ensures in
    put_as (line_speed_refusal _ _ _ _ e (c.from.ensures ∙ c.number.ensures)) c.put_refusal.ensures.put

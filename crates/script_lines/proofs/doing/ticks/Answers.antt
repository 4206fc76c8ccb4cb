-- A tick more, none left, and a module at rest, whose ticks move its clock alone. Assumes nothing.
use Rattle.std.proofs.Common.{◌∙◌, sym, rules}
use Rattle.script_lines.proofs.DoingLaws.{ticks_turn, ticks_end, ticks_rest}
use Rattle.script_lines.proofs.doing.ticks.Goals as goal

pub returns-then-is_at_rest : goal.returns-then-is_at_rest
returns-then-is_at_rest c =
    c.rest_ticks.ensures ∙ sym (ticks_rest _ c.loop-i.agent (c.is_at_rest.ensures.rests c.if-is_at_rest.true)) ∙ c.loop-i.invariant

pub loop-i-preserved : goal.loop-i-preserved
loop-i-preserved c = ticks_turn _ _ c.loop-i.agent _ _ (search rules) c.tick_held.ensures c.loop-i.invariant

pub returns : goal.returns
returns c = ticks_end _ _ _ _ (search rules) c.loop-i.invariant

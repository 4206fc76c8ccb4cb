-- A line more, and none left. Assumes nothing.
use Rattle.removals.proofs.PlayingLaws.{play_turn, play_end}
use Rattle.removals.proofs.playing.play.Goals as goal

pub loop-line-preserved : goal.loop-line-preserved
loop-line-preserved c = play_turn _ _ _ c.loop-line.invariant _ _ _ c.in-Some.ensures.steps c.play_line.ensures

pub returns : goal.returns
returns c = play_end _ _ _ c.loop-line.invariant c.in-None.ensures.steps.0

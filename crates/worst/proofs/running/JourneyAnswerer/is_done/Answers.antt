use Rattle.std.proofs.Common.{sym, ◌∙◌}
use Rattle.console.proofs.SpeakingLaws.{quiet_spoken}
use Rattle.worst.specs.Reading.{reading}
use Rattle.worst.proofs.Whole.{quiet, not_so}
use Rattle.worst.proofs.running.JourneyAnswerer.is_done.Goals as goal

pub returns : goal.returns
returns c = λ t lines. quiet_spoken reading _ (quiet _ (sym c.is_counting.ensures ∙ not_so c.is_counting.result t)) lines

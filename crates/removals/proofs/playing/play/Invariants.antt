-- The lines that are left, from here, give the whole.
use Rattle.std.proofs.Common.{◌≡◌}
use Rattle.console.specs.Lines.{lines_of}
use Rattle.removals.specs.Removals.{after_lines}
use Rattle.removals.proofs.playing.play.Given as goal

abbrev pub invariant-loop-line : goal.invariant-loop-line
invariant-loop-line l = after_lines l.agent l.line-iterator ≡ after_lines l.fn.agent (lines_of l.text)

-- What is found among the lines that are left is what is found.
use Rattle.std.proofs.Common.{◌≡◌, ◌+◌, ◌≤◌, length}
use Rattle.console.specs.Lines.{lines_of}
use Rattle.script_lines.specs.Doing.{script_module}
use Rattle.removals.specs.Searching.{first_from}
use Rattle.removals.proofs.searching.first.Given as goal

abbrev pub invariant-loop-line : goal.invariant-loop-line
invariant-loop-line l = record {
  few : l.number + length l.lines ≤ length l.text + 1;
  found : first_from l.number l.agent l.lines ≡ first_from 1 script_module (lines_of l.text);
}

abbrev pub decreases-loop-line : goal.decreases-loop-line
decreases-loop-line l = length l.lines

-- What was written, what is on the page, and what is said to the lines to come. Assumes nothing.
use Rattle.std.proofs.Common.{ℕ, List, ◌++◌}
use Rattle.console.specs.Lines.{lines_of}
use Rattle.console.proofs.RunningLaws.{Stands}
use Rattle.console.proofs.answering.run.Given as goal

abbrev pub invariant-loop : goal.invariant-loop
invariant-loop g l =
    Stands (λ (all : List ℕ). l.fn.page ++ g.P.Answerer.says l.fn.program (lines_of all)) (g.R.Read.remaining l.fn.input) (g.R.Read.remaining l.input)
    (g.W.Write.contents l.fn.output) (g.W.Write.contents l.output) l.page (g.P.Answerer.says l.program) l.line l.block

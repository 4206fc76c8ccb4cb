-- A front of the text was written, and the rest is left. Assumes nothing.
use Rattle.console.specs.Handing.{HandsOn}
use Rattle.console.proofs.pages.write_text.Given as goal

abbrev pub invariant-loop : goal.invariant-loop
invariant-loop g l = HandsOn (g.W.Write.contents l.fn.output) (g.W.Write.contents l.output) l.fn.text l.rest

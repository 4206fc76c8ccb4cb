-- What is made of the pattern and what is left of it are the whole. Assumes nothing.
use Rattle.cases.proofs.LayingLaws.{Filled}
use Rattle.cases.proofs.layings.pattern.Given as goal

abbrev pub invariant-loop-i : goal.invariant-loop-i
invariant-loop-i l = Filled l.b-items l.i

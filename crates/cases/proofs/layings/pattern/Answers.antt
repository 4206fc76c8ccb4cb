-- A turn, and the end. Assumes nothing.
use Rattle.std.proofs.Common.{◌∙◌}
use lib.ListN.{length-set}
use Rattle.cases.proofs.LayingLaws.{pattern_turn, pattern_end}
use Rattle.cases.proofs.layings.pattern.Goals as goal

pub loop-i-preserved : goal.loop-i-preserved
loop-i-preserved c =
    let b = c.loop-i in
    (pattern_turn b.b-items b.i c.loop-i-test.true b.invariant.1 b.invariant.0, length-set b.b-items b.i _ ∙ b.invariant.1)

pub returns : goal.returns
returns c = pattern_end _ _ c.loop-i-test.false c.loop-i.invariant.1 c.loop-i.invariant.0

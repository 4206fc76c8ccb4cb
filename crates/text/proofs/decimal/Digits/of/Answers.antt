use Rattle.text.proofs.DecimalLaws.{stands_turn, stands_end}
use Rattle.std.proofs.Common.{rules}
use Rattle.text.proofs.decimal.Digits.of.Goals as goal

pub loop-rest-preserved : goal.loop-rest-preserved
loop-rest-preserved c = stands_turn _ _ _ _ c.loop-rest.invariant (search rules)

pub returns : goal.returns
returns c = stands_end _ _ _ _ c.loop-rest.invariant (search rules)

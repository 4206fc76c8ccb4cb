-- The call by its kind. Assumes nothing.
use Rattle.runs.proofs.CallBytesLaws.{as_tick, as_frame, continues_as}
use Rattle.runs.proofs.stepping.call.Goals as goal

pub returns-then-kind-eq0 : goal.returns-then-kind-eq0
returns-then-kind-eq0 c = continues_as _ _ _ _ _ _ (as_tick _ _ _ _ c.if-kind-eq0.true) c.answer.ensures c.tick.ensures.1

pub returns-else-kind-eq0 : goal.returns-else-kind-eq0
returns-else-kind-eq0 c = continues_as _ _ _ _ _ _ (as_frame _ _ _ _ c.if-kind-eq0.false) c.answer-else-kind-eq0.ensures c.frame.ensures.1

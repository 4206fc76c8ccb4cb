use Rattle.std.proofs.lemmas.Result.{on_ok_weaker}
use Rattle.which.proofs.WritingLaws.{text_written}
use Rattle.which.proofs.running.run.Goals as goal

pub returns-clause-ok : goal.returns-clause-ok
returns-clause-ok g c = on_ok_weaker c.hand_on.result (λ t. text_written _ _ _ c.in_ok-read.ensures.ok _ c.tell.ensures _ _ t) c.hand_on.ensures.ok

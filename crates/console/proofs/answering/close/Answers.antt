use Rattle.std.proofs.Common.{[]}
use Rattle.std.proofs.lemmas.Result.{on_err_weaker}
use Rattle.console.proofs.HandingLaws.{at_error, front_longer, hands_longer, hands_fails}
use Rattle.console.proofs.answering.close.Goals as goal

pub returns-in_err-make_room-clause-err : goal.returns-in_err-make_room-clause-err
returns-in_err-make_room-clause-err g c = at_error c.from_residual.result (front_longer _ _ _ _ c.in_err-make_room.ensures.err)

pub returns-clause-err : goal.returns-clause-err
returns-clause-err g c =
    on_err_weaker c.hand_on.result
    (λ f. hands_fails _ _ _ _ _ (hands_longer _ _ _ _ (g.P.Answerer.says c.args.program.now []) c.in_ok-make_room.ensures.ok) (rw c.finish.ensures at f))
    c.hand_on.ensures.err

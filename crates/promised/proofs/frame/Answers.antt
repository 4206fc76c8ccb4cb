-- The body passed in is bytes. Assumes nothing.
use Rattle.std.proofs.Common.{length}
use Rattle.demand3.proofs.ReachedLaws.{continues}
use Rattle.rules.specs.Calls.{frame}
use Rattle.promised.proofs.frame.Goals as goal

pub returns : goal.returns
returns c =
    let e = c.frame.ensures in
    let args = c.args in
    (e, continues _ (frame args.port args.body.now (length args.reply.now)) (λ i. (c.type_inv.body i).fits) _ _ (e.0, e.1))

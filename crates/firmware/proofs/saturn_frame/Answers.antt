-- What the call of `agent` ensures; the body passed in is bytes. Assumes nothing.
use Rattle.std.proofs.Common.{length, ◌∙◌}
use Rattle.demand3.proofs.ReachedLaws.{continues}
use Rattle.rules.specs.Calls.{frame, frame_call, AnswersFrame}
use Rattle.firmware.proofs.saturn_frame.Goals as goal

pub returns : goal.returns
returns c =
    let a = c.args in
    let f = c.frame-judged in
    let h = f.ensures in
    let e : AnswersFrame (frame_call a.agent.now a.port a.body.now (length a.reply.now)) c.answer.result f.new.agent c.unwrap_or.result a.reply.now f.new.reply =
    (c.answer.ensures ∙ h.0, h.1, c.unwrap_or.ensures ∙ h.2, h.3) in
    (e, continues a.agent.now (frame a.port a.body.now (length a.reply.now)) (λ i. (c.type_inv.body i).fits) _ _ (e.0, e.1))

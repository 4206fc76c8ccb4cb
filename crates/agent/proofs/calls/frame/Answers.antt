-- Past the host's numbers: a refusal, or what is sent. Assumes nothing.
use Rattle.std.proofs.Common.{rules, ◌≡◌, sym, ◌∙◌}
use Rattle.std.specs.Result.{result_unwrap_or}
use Rattle.rules.specs.FrameCall.{on_frame}
use Rattle.rules.specs.Replies.{does}
use Rattle.agent_state.specs.Refusing.{answer_of}
use Rattle.agent.proofs.CallLaws.{frame_refused, frame_sends}
use Rattle.agent.proofs.calls.frame.Goals as goal

pub returns-in_err-says : goal.returns-in_err-says
returns-in_err-says c =
    let d : does (answer_of c.from_residual.result) c.on_frame.new.agent ≡ on_frame c.args.port c.args.agent.now c.args.body.now = search rules in
    let n : result_unwrap_or c.from_residual.result 0 ≡ 0 = search rules in
    let f = frame_refused c.args.agent.now c.args.port c.args.body.now c.args.reply.now c.if-not-is_sound.ensures.sound c.if-reply-lt-LEAST_ROOM.false (sym c.if-not-is_port.ensures) _ _ d in
    (f.0, f.1, n ∙ f.2, f.3)

pub returns : goal.returns
returns c =
    frame_sends c.args.agent.now c.args.port c.args.body.now c.args.reply.now c.if-not-is_sound.ensures.sound c.if-reply-lt-LEAST_ROOM.false (sym c.if-not-is_port.ensures)
    _ _ _ _ _ c.in_ok-says.ensures (c.send.ensures 0)

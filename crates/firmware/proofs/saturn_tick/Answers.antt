-- Accepted, and refused; the inputs passed in are bytes. Assumes nothing.
use Rattle.std.proofs.Common.{◌≡◌, ap, ◌∙◌}
use Rattle.demand3.proofs.ReachedLaws.{continues}
use Rattle.rules.specs.Calls.{tick, tick_call, Answers}
use Rattle.rules.specs.Inputs.{with_inputs}
use Rattle.rules.specs.Replies.{Outcome, outcome}
use Rattle.rules.specs.Tick.{ticked}
use Rattle.agent_state.specs.Refusing.{answer_of, number_of}
use Rattle.firmware.proofs.saturn_tick.Goals as goal

pub returns-in-Ok : goal.returns-in-Ok
returns-in-Ok c =
    let a = c.args.agent.now in
    let xs = c.args.inputs.now in
    let o : outcome 0 (ticked (with_inputs c.in-Ok.inputs.now a)) ≡ tick_call a xs = c.in-Ok.ensures.accepted in
    let e : Answers (tick_call a xs) 0 c.ticked.result =
    (ap (λ (x : Outcome). x.answer) o, c.ticked.ensures ∙ ap (λ (x : Outcome). x.agent) o) in
    (e, continues a (tick xs) (λ i. (c.type_inv.inputs i).fits) _ _ e)

pub returns-in-Err : goal.returns-in-Err
returns-in-Err c =
    let a = c.args.agent.now in
    let xs = c.args.inputs.now in
    let o : outcome (number_of c.in-Err.field-0) a ≡ tick_call a xs = c.in-Err.ensures.refused in
    let e : Answers (tick_call a xs) c.answer.result a =
    (c.answer.ensures ∙ ap answer_of c.in-Err.is ∙ ap (λ (x : Outcome). x.answer) o, ap (λ (x : Outcome). x.agent) o) in
    (e, continues a (tick xs) (λ i. (c.type_inv.inputs i).fits) _ _ e)

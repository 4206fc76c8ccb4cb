-- The lent part is the data, and the writer refuses no reply that fits. Assumes nothing.
use Rattle.std.proofs.Common.{rules, ◌≡◌, length, ◌∙◌, arith}
use Rattle.frame_kinds.proofs.Typed.{typed}
use Rattle.frame_kinds.specs.Sized.{Sized}
use Rattle.agent_replies.proofs.InPlaceLaws.{sent_in_place}
use Rattle.agent_replies.proofs.SendingLaws.{part_lent, reply_most, sent_length, sent_left}
use Rattle.agent_replies.proofs.sending.send_frame.Goals as goal

pub overflow_cast-result : goal.overflow_cast-result
overflow_cast-result c =
    let a = c.args.agent.now in
    let f = c.args.f in
    let p = c.part_of-part in
    let w = c.write_frame in
    let regs : length a.regs ≡ 256 = search rules in
    let sized : Sized f = typed f _ c.well_formed.1.0 in
    let h = c.requires.0 in
    let e = part_lent a f h p.result p.ensures in
    record { fits = omega (arith, c.unwrap_or-n.ensures, sent_length a f h regs sized (length c.args.reply.now) c.requires.1 _ e w.result w.ensures.written, reply_most a f h regs sized) }

pub returns : goal.returns
returns c m =
    let a = c.args.agent.now in
    let f = c.args.f in
    let p = c.part_of-part in
    let w = c.write_frame in
    let regs : length a.regs ≡ 256 = search rules in
    let sized : Sized f = typed f _ c.well_formed.1.0 in
    let h = c.requires.0 in
    let e = part_lent a f h p.result p.ensures in
    sent_in_place a f p.result.stat _ m c.args.reply.now _ c.if-is_muted.ensures
    (c.unwrap_or-n.ensures ∙ sent_length a f h regs sized (length c.args.reply.now) c.requires.1 _ e w.result w.ensures.written)
    (w.ensures.left ∙ sent_left a f h regs sized (length c.args.reply.now) c.requires.1 _ e w.result w.ensures.written c.args.reply.now)

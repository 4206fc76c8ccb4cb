-- An error says no data. Assumes nothing.
use Rattle.std.proofs.Common.{rules, get_or, Fits, w8}
use Rattle.rules.specs.Registers.{ad_ref}
use Rattle.agent_replies.proofs.ReplyLaws.{sync_error}
use Rattle.agent_replies.proofs.replies.sync_reply.Goals as goal

pub response-requires : goal.response-requires
response-requires c =
    let h : Fits w8 (get_or c.args.agent.now.regs ad_ref 0) = search rules in
    (c.requires, sync_error _ h.fits)

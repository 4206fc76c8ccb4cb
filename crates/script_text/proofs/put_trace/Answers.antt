-- A space, the reply, a space and the registers. Assumes nothing.
use Rattle.script_text.proofs.PrintingLaws.{trace_put}
use Rattle.script_text.proofs.put_trace.Goals as goal

pub returns-clause-text : goal.returns-clause-text
returns-clause-text g c =
    let a = c.args in
    let s = c.requires in
    trace_put _ a.text.now a.sent.now a.regs.now _ _ _ _ s.0 s.1 s.2 c.add.ensures c.put_reply.ensures c.add-2.ensures c.add_hex.ensures

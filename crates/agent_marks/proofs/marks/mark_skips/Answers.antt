use Rattle.std.proofs.Common.{◌≤◌, get_or, rules}
use Rattle.agent_marks.proofs.SkipLaws.{some_skipped}
use Rattle.agent_marks.proofs.marks.mark_skips.Goals as goal

pub returns-then-n-gt0 : goal.returns-then-n-gt0
returns-then-n-gt0 c =
    let a = c.args.agent.now in
    let byte : get_or a.regs 0x20 0 ≤ 255 = search rules in
    some_skipped c.args.n _ a c.if-n-gt0.true byte (search rules)

use Rattle.std.proofs.Common.{◌≡◌, length, sym, ◌∙◌, rules}
use Rattle.agent_state.proofs.SourceLoops.{many_held, many_zero}
use Rattle.agent_state.proofs.sources.is_recorded.Goals as goal

pub returns-then-holds : goal.returns-then-holds
returns-then-holds c =
    let a = c.args.agent.now in
    let long : length a.known ≡ 8 = search rules in
    c.if-holds.true ∙ many_held a _ long c.if-agent-le8.false (sym c.if-holds.true ∙ c.holds-2.ensures)

pub returns-else-holds : goal.returns-else-holds
returns-else-holds c =
    let a = c.args.agent.now in
    let long : length a.known ≡ 8 = search rules in
    many_zero a _ long c.if-agent-le8.false (sym c.if-holds.false ∙ c.holds-2.ensures)

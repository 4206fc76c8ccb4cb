use Rattle.std.proofs.Common.{◌≡◌, ap, ◌∙◌, ◌+◌, ◌-◌, rules, length, replicate}
use Rattle.std.proofs.lemmas.List.Edits.{sets}
use Rattle.base.proofs.Sets.{put_mid_sets}
use Rattle.agent_state.proofs.registers.fill.Goals as goal

pub returns : goal.returns
returns c =
    let e : c.fill.new.self ≡ replicate c.args.count c.args.x = search rules in
    let n : length c.fill.new.self ≡ c.args.at + c.args.count - c.args.at = search rules in
    put_mid_sets c.args.at _ c.args.regs.now c.fill.new.self n (search rules) ∙ ap (λ l. sets c.args.regs.now c.args.at l) e

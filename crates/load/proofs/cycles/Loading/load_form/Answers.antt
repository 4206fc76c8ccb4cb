-- A line past the millionth, and one before. Assumes nothing.
use Rattle.std.proofs.Common.{◌≡◌, ◌+◌, ◌<◌, Bor, List, ℕ, length, refl, ap, ◌∙◌, arith}
use Rattle.rules.specs.declared.Agent.{Agent}
use Rattle.console.specs.Handing.{with_text}
use Rattle.script_lines.specs.Forms.{step_in}
use Rattle.script_lines.specs.Doing.{told}
use Rattle.load.specs.Cycles.{is_opening, most_lines}
use Rattle.load.proofs.CyclesLaws.{none_put, past_shown, told_answer, told_agent, told_sent, line_after, line_shown}
use Rattle.load.proofs.cycles.Loading.load_form.Goals as goal

pub returns-then-self-ge-MOST_LINES-clause-text : goal.returns-then-self-ge-MOST_LINES-clause-text
returns-then-self-ge-MOST_LINES-clause-text c =
    let a = c.args in
    none_put a.page.now ∙ ap (λ (t : List ℕ). with_text a.page.now t) (past_shown a.self.now (step_in a.form a.bytes.now) (omega arith))

pub returns-clause-after : goal.returns-clause-after
returns-clause-after c =
    let a = c.args in
    let d = c.do_form-done in
    let s = step_in a.form a.bytes.now in
    let below : a.self.now.lines < most_lines = omega arith in
    let sent : length c.unwrap_or.result.now ≡ length (told d.result d.new.agent).line =
    ap (λ (x : Bor (List ℕ)). length x.now) c.unwrap_or.ensures ∙ told_sent d.result d.new.agent _ refl in
    ap (λ (x : Agent). record { agent = x; lines = a.self.now.lines + 1; cycle = c.cycle_after-self.result }) (told_agent d.result d.new.agent)
    ∙ line_after a.self.now s (told d.result d.new.agent) _ c.is_opening-opens.result below d.ensures.told sent
    (c.is_opening-opens.ensures ∙ ap (is_opening s) (told_answer d.result d.new.agent)) _ c.cycle_after-self.ensures

pub returns-clause-text : goal.returns-clause-text
returns-clause-text c =
    let a = c.args in
    let d = c.do_form-done in
    let s = step_in a.form a.bytes.now in
    let below : a.self.now.lines < most_lines = omega arith in
    let sent : length c.unwrap_or.result.now ≡ length (told d.result d.new.agent).line =
    ap (λ (x : Bor (List ℕ)). length x.now) c.unwrap_or.ensures ∙ told_sent d.result d.new.agent _ refl in
    c.put_ended.ensures.text
    ∙ ap (λ (t : List ℕ). with_text a.page.now t)
    (line_shown a.self.now s (told d.result d.new.agent) _ c.is_opening-opens.result below d.ensures.told sent
    (c.is_opening-opens.ensures ∙ ap (is_opening s) (told_answer d.result d.new.agent)))

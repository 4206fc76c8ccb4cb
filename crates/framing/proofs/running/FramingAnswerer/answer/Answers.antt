-- The answer is that to the whole line. Assumes nothing.
use Rattle.std.proofs.Common.{◌++◌, List, ℕ, ap, ◌∙◌, append_assoc}
use Rattle.console.specs.Speaking.{spoken}
use Rattle.framing.specs.Answers.{answer_of}
use Rattle.framing.specs.Running.{number_of, number_text, answering}
use Rattle.framing.proofs.RunningLaws.{line_shown}
use Rattle.framing.proofs.running.FramingAnswerer.answer.Goals as goal

pub returns : goal.returns
returns c = λ chars lines e.
    let page : List ℕ = c.args.page.now in
    let n : ℕ = c.args.self.now.lines in
    ap (λ (t : List ℕ). t ++ spoken answering (number_of n) lines)
    (c.put.ensures ∙ ap (λ (t : List ℕ). page ++ t) (c.answer_after.ensures ∙ line_shown (number_text n) c.args.line.now chars e))
    ∙ append_assoc page (answer_of (number_text n) chars) (spoken answering (number_of n) lines)

-- What is shown of a line is what is shown of the whole line, and there is room for it. Assumes nothing.
use Rattle.std.proofs.Common.{◌≡◌, ◌++◌, List, ℕ, sym, ap, ap₂, arith, ◌∙◌, append_assoc}
use Rattle.console.specs.Speaking.{spoken}
use Rattle.text.proofs.TextLaws.{piece_fits}
use Rattle.script_lines.specs.Forms.{Step, line_of}
use Rattle.script_lines.proofs.LineShown.{line_shown}
use Rattle.script.specs.Playing.{scripted, after, shown}
use Rattle.script.specs.declared.playing.Player.{Player}
use Rattle.script.proofs.running.ScriptAnswerer.answer.Goals as goal

pub returns : goal.returns
returns c = λ chars lines e.
    let s = c.args.self.now in
    let page : List ℕ = c.args.page.now in
    let k : line_of c.args.line.now ≡ line_of chars = line_shown c.args.line.now chars e in
    let t = c.play_line.ensures.text ∙ sym (piece_fits 16384 page _ (omega (arith, c.requires, c.play_line.ensures.short))) in
    ap₂ (λ (t : List ℕ) (p : Player). t ++ spoken (scripted s.view) p lines)
    (t ∙ ap (λ (x : Step). page ++ shown s.view s.player x) k)
    (c.play_line.ensures.player ∙ ap (after s.player) k)
    ∙ append_assoc page (shown s.view s.player (line_of chars)) (spoken (scripted s.view) (after s.player (line_of chars)) lines)

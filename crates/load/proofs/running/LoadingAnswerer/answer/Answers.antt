-- A line is played as what is shown of it, and there is room for its text. Assumes nothing.
use Rattle.std.proofs.Common.{◌≡◌, ◌++◌, List, ℕ, sym, ap, ap₂, arith, ◌∙◌, append_assoc}
use Rattle.text.proofs.TextLaws.{piece_fits}
use Rattle.console.specs.Speaking.{spoken}
use Rattle.script_lines.specs.Forms.{Step, line_of}
use Rattle.script_lines.proofs.LineShown.{line_shown}
use Rattle.load.specs.Loading.{loading, after, shown}
use Rattle.load.specs.declared.cycles.Loading.{Loading}
use Rattle.load.proofs.running.LoadingAnswerer.answer.Goals as goal

pub returns : goal.returns
returns c = λ chars lines e.
    let p = c.args.self.now in
    let page : List ℕ = c.args.page.now in
    let k : line_of c.args.line.now ≡ line_of chars = line_shown c.args.line.now chars e in
    let t = c.load_line.ensures.text ∙ sym (piece_fits 16384 page _ (omega (arith, c.requires, c.load_line.ensures.short))) in
    ap₂ (λ (t : List ℕ) (q : Loading). t ++ spoken loading q lines)
    (t ∙ ap (λ (x : Step). page ++ shown p x) k)
    (c.load_line.ensures.after ∙ ap (after p) k)
    ∙ append_assoc page (shown p (line_of chars)) (spoken loading (after p (line_of chars)) lines)

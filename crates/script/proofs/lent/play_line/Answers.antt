use Rattle.std.proofs.Common.{◌≡◌, ◌≤◌, length, ap, ◌∙◌}
use Rattle.script_lines.specs.Forms.{Step}
use Rattle.script.specs.Playing.{after, shown}
use Rattle.text.proofs.PuttingLaws.{same_put}
use Rattle.text.proofs.TextLaws.{piece_lent}
use Rattle.script.proofs.lent.play_line.Goals as goal

pub returns : goal.returns
returns c =
    let a = c.args in
    let e = c.kept.ensures in
    let w = c.play_line.ensures in
    let t = ap (λ (s : Step). shown a.view a.p s) e in
    let p = same_put _ _ _ _ _ _ t (piece_lent 1700 _ _ _ _ _ _ _ _ w.short c.new-text.ensures w.text c.as_slice.ensures.text c.put_text-next.ensures) in
    (rw t at w.short, w.player ∙ ap (after a.p) e, p.0, p.1)

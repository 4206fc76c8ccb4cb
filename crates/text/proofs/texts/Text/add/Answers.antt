use Rattle.std.proofs.Common.{◌≡◌, length, sym, ap, arith, ◌∙◌}
use Rattle.std.proofs.lemmas.List.{length-take-le}
use Rattle.text.proofs.TextLaws.{piece_fits, piece_not}
use Rattle.text.proofs.texts.Text.add.Goals as goal

pub returns-then-text-self : goal.returns-then-text-self
returns-then-text-self g c =
    let i = c.self.inside in
    let l : length c.args.self.now ≡ i.len = sym (ap length c.self.view_is) ∙ length-take-le i.len i.chars (omega (arith, c.self.invariant)) in
    c.put.ensures.text ∙ piece_fits g.row.ROOM c.args.self.now c.args.text.now (omega (arith, l))

pub returns-else-text-self : goal.returns-else-text-self
returns-else-text-self g c =
    let i = c.self.inside in
    let l : length c.args.self.now ≡ i.len = sym (ap length c.self.view_is) ∙ length-take-le i.len i.chars (omega (arith, c.self.invariant)) in
    piece_not g.row.ROOM c.args.self.now c.args.text.now (omega (arith, l))

use Rattle.text.proofs.TextLaws.{piece_lent}
use Rattle.load_text.proofs.lent.put_cycle.Goals as goal

pub returns : goal.returns
returns c =
    let e = c.put_cycle.ensures in
    let p = piece_lent 64 _ _ _ _ _ _ _ _ e.0 c.new-text.ensures e.1 c.as_slice.ensures.text c.put_text.ensures in
    (e.0, p.0, p.1)

-- The text of a cycle fits the page. Assumes nothing.
use Rattle.std.proofs.Common.{sym, ◌∙◌, arith}
use Rattle.text.proofs.TextLaws.{piece_fits}
use Rattle.load.proofs.cycles.put_open.Goals as goal

pub returns : goal.returns
returns c =
    let e = c.put_cycle.ensures in
    e.1 ∙ sym (piece_fits 16384 c.args.page.now _ (omega (arith, c.requires, e.0)))

-- The result of reading hex digits. Assumes nothing.
use Rattle.std.proofs.Common.{ap, sym, ◌∙◌}
use Rattle.text.specs.Hex.{hex_pairs}
use Rattle.text.proofs.HexRead.{bytes_got}
use Rattle.frame_asking.proofs.HexCount.{read_kept}
use Rattle.frame_asking.proofs.OutcomeLaws.{body_by}
use Rattle.frame_asking.proofs.by_body.Goals as goal

pub returns-clause-told : goal.returns-clause-told
returns-clause-told c =
    let a = c.args in
    let h = c.hex_bytes.ensures in
    let e = read_kept _ _ _ _ c.in_ok-n.ensures.cases c.in_ok-n.ensures.variant ∙ h.0 in
    rw (body_by a.line.now a.at c.if-line-at.false _ (ap hex_pairs (sym c.split_at.ensures.back) ∙ (bytes_got _ _ _ _ e h.1).0), c.explained.ensures)

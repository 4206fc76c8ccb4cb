-- The result of reading hex digits. Assumes nothing.
use Rattle.std.proofs.Common.{arith, ◌∙◌}
use Rattle.text.proofs.HexRead.{bytes_got}
use Rattle.frame_asking.proofs.HexCount.{read_kept, data_inside}
use Rattle.frame_asking.proofs.OutcomeLaws.{with_data_lem}
use Rattle.frame_asking.proofs.with_data.Goals as goal

pub overflow_add-at : goal.overflow_add-at
overflow_add-at c =
    let a = c.args in
    let h = c.data_at.ensures in
    let e = read_kept _ _ _ _ c.in_ok-n.ensures.cases c.in_ok-n.ensures.variant ∙ h.0 in
    omega (arith, data_inside a.line.now a.at _ (bytes_got _ _ _ _ e h.1).0)

pub returns-clause-told : goal.returns-clause-told
returns-clause-told c =
    let a = c.args in
    let h = c.data_at.ensures in
    let e = read_kept _ _ _ _ c.in_ok-n.ensures.cases c.in_ok-n.ensures.variant ∙ h.0 in
    rw (with_data_lem a.line.now a.at a.kind a.v _ (bytes_got _ _ _ _ e h.1).0, ← c.word_end.ensures) c.at_end.ensures.told

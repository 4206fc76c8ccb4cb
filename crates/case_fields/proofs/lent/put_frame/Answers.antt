-- The text is cut behind the kind and before STAT. Assumes nothing.
use Rattle.std.proofs.Common.{◌∙◌, ap}
use Rattle.case_fields.specs.Lent.{puts}
use Rattle.case_fields.proofs.LentLaws.{stat_within, parts}
use Rattle.case_fields.proofs.lent.put_frame.Goals as goal

pub overflow_sub-rest : goal.overflow_sub-rest
overflow_sub-rest c = stat_within c.args.f _ _ _ c.new-text.ensures c.add_frame.ensures c.as_slice.ensures.text _ c.split_at.ensures.back _ c.put_tail-n.ensures.next

pub returns : goal.returns
returns c =
    let a = c.args in
    c.put_pieces.ensures
    ∙ ap (puts (a.buf.now, a.at))
    (parts a.f _ _ _ c.new-text.ensures c.add_frame.ensures c.as_slice.ensures.text _ c.split_at.ensures.back _ c.put_tail-n.ensures.next
    _ _ _ c.split_at.ensures.front c.split_at-2.ensures.front c.split_at-2.ensures.back)

-- The fields are short, and what was put from the start on is what is added. Assumes nothing.
use Rattle.std.proofs.Common.{◌≤◌, ◌∙◌, [], ◌∷◌, ℕ, length, sym, ap, ap₂, arith}
use lib.Seq.{length-take-le}
use Rattle.fields.specs.Fields.{laid}
use Rattle.frame_words.specs.Texts.{put}
use Rattle.cases.proofs.AnswerLaws.{front}
use Rattle.case_fields.proofs.KindLaws.{fields_short}
use Rattle.case_fields.proofs.fields_out.add_row.Goals as goal

pub put_fields-n-requires : goal.put_fields-n-requires
put_fields-n-requires c = omega (arith, fields_short c.args.f c.args.fields.now c.requires.fields)

pub slice_bounds-bytes-end : goal.slice_bounds-bytes-end
slice_bounds-bytes-end c =
    let p = c.put_fields-n in
    omega (arith, p.ensures.next, p.auto.dst, fields_short c.args.f c.args.fields.now c.requires.fields)

pub slice_bounds-add-end-2 : goal.slice_bounds-add-end-2
slice_bounds-add-end-2 c =
    let p = c.put_fields-n in
    sym (length-take-le p.result p.new.dst (omega (arith, p.ensures.next, p.auto.dst, fields_short c.args.f c.args.fields.now c.requires.fields)))

pub returns : goal.returns
returns c =
    let a = c.args in
    let p = c.put_fields-n in
    let h : length (laid a.fields.now) ≤ 28 = fields_short a.f a.fields.now c.requires.fields in
    c.add-2.ensures
    ∙ ap₂ put (c.add.ensures ∙ ap (λ (n : ℕ). put a.t.now (n ∷ [])) c.requires.kind)
    (front _ (laid a.fields.now) p.result p.new.dst (omega (arith, h)) (p.ensures.next, p.ensures.stored) ∙ ap laid c.requires.fields)

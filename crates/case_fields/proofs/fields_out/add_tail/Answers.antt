-- What was put from the start on is what is added. Assumes nothing.
use Rattle.std.proofs.Common.{ap, ◌∙◌, arith}
use Rattle.fields.specs.Fields.{laid}
use Rattle.frame_kinds.specs.Kinds.{tail_of}
use Rattle.frame_words.specs.Texts.{put}
use Rattle.cases.proofs.AnswerLaws.{front}
use Rattle.case_fields.proofs.KindLaws.{tail_short}
use Rattle.case_fields.proofs.fields_out.add_tail.Goals as goal

pub returns : goal.returns
returns c =
    let p = c.put_tail-n in
    c.add.ensures ∙ ap (put c.args.t.now) (front _ (laid (tail_of c.args.f)) p.result p.new.dst (omega (arith, tail_short c.args.f)) (p.ensures.next, p.ensures.stored))

-- The text of the answer, put on the page. Assumes nothing.
use Rattle.std.proofs.Common.{arith, ap}
use Rattle.console.specs.Speaking.{spoken}
use Rattle.cases.specs.Cases.{answering, answer_text}
use Rattle.cases.proofs.RunningLaws.{said_short, said}
use Rattle.cases.proofs.running.CaseProgramAnswerer.answer.Goals as goal

pub put_answer_text-requires : goal.put_answer_text-requires
put_answer_text-requires g c = omega (arith, said_short c.answer_line.ensures (ap answer_text c.as_slice.ensures.text), c.requires)

pub returns : goal.returns
returns g c = λ chars lines e.
    said _ c.args.line.now chars c.args.page.now e c.answer_line.ensures (ap answer_text c.as_slice.ensures.text) c.put_answer_text.ensures (spoken (answering g.C.Cases.answers) tt lines)

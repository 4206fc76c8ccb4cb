-- What was laid into the buffer. Assumes nothing.
use Rattle.std.proofs.Common.{◌≤◌, length, arith}
use Rattle.cases.proofs.LayingLaws.{laid_says}
use Rattle.body_cases.proofs.answering.lay_into.Goals as goal

pub returns : goal.returns
returns c =
    let w = c.lay-laid in
    let l : length w.new.buf ≤ 600 = omega (arith, w.auto.buf, c.requires) in
    rw (← w.ensures.laid) (laid_says w.result _ _ w.new.buf _ l w.ensures.left c.laid_answer.ensures)

-- There is room on a new line. Assumes nothing.
use Rattle.std.proofs.Common.{arith, ap, length, List, ℕ}
use Rattle.cases.specs.Cases as cases
use Rattle.cases.proofs.AnswerLaws.{answer_most}
use Rattle.cases.proofs.answers.answer_text.Goals as goal

pub put_answer_text-requires : goal.put_answer_text-requires
put_answer_text-requires c =
    let a = c.as_slice.ensures in
    omega (arith, ap length c.new-line.ensures, ap (λ (s : List ℕ). length (cases.answer_text s)) a.text, answer_most c.args.t.now 2048 (omega arith) a.within)

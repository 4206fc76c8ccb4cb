-- BAD, or the answer in hex digits. Assumes nothing.
use Rattle.std.proofs.Common.{refl}
use Rattle.cases.proofs.AnswerLaws.{no_length, some_length, put_bad, put_hex}
use Rattle.cases.proofs.answers.put_answer_text.Goals as goal

pub returns-then-is_empty : goal.returns-then-is_empty
returns-then-is_empty g c = put_bad _ _ _ _ (no_length _ _ _ c.is_empty.ensures c.if-is_empty.true refl) c.requires c.add.ensures

pub returns : goal.returns
returns g c = put_hex _ _ _ _ _ (some_length _ _ c.is_empty.ensures c.if-is_empty.false) c.requires c.add_hex.ensures c.end_line.ensures

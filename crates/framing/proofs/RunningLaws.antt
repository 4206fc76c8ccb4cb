-- Laws of a line's answer, which is that to what is shown of the line, and of the text at the end. Assumes nothing.
use Rattle.std.proofs.Common.{◌≡◌, ℕ, List, [], eqb, sym, ap, arith, ne_eqb}
use Rattle.base.proofs.Choosing.{choose_true, choose_false}
use Rattle.console.specs.Showing.{shown}
use Rattle.console.proofs.ShowingLaws.{same_shown}
use Rattle.framing.specs.Answers.{answer_of, over_text}
use Rattle.frame_grammar.specs.Grammar.{grammar_text}
use Rattle.framing.proofs.AnswerLaws.{answer_over}
use Rattle.framing.specs.Running.{end_text}

-- however long the line is
pub line_shown : (number line cs : List ℕ) → line ≡ shown cs → answer_of number line ≡ answer_of number cs
line_shown number = same_shown (answer_of number) (over_text number) 1200 (omega arith) (λ cs h. answer_over number cs h)

-- ---- the end: the grammar, if there was no line
pub end_first : (n : ℕ) → n ≡ 0 → grammar_text ≡ end_text n
unfolding end_text
end_first n e = sym (choose_true _ _ (ap (λ (m : ℕ). eqb m 0) e))

pub end_later : (n : ℕ) → (n ≡ 0 → ⊥) → [] ≡ end_text n
unfolding end_text
end_later n h = sym (choose_false _ _ (ne_eqb n 0 h))

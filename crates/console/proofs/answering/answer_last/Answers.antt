-- The characters of a last line, if there are any, are one line. Assumes nothing.
use Rattle.std.proofs.Common.{◌++◌, List, [], ℕ, sym, ap, ◌∙◌}
use Rattle.console.proofs.RunningLaws.{some_last, none_last}
use Rattle.console.proofs.answering.answer_last.Goals as goal

pub returns-then-not-is_empty : goal.returns-then-not-is_empty
returns-then-not-is_empty g c = λ chars free e.
    let says = g.P.Answerer.says c.args.program.now in
    let page : List ℕ = c.args.page.now in
    c.answer.ensures chars [] (c.as_slice-then-not-is_empty.ensures.text ∙ e)
    ∙ ap (λ (ls : List (List ℕ)). page ++ says ls) (sym (some_last _ chars _ c.is_empty.ensures c.if-not-is_empty.true free (c.as_slice.ensures.text ∙ e)))

pub returns-else-not-is_empty : goal.returns-else-not-is_empty
returns-else-not-is_empty g c = λ chars free e.
    let says = g.P.Answerer.says c.args.program.now in
    let page : List ℕ = c.args.page.now in
    ap (λ (ls : List (List ℕ)). page ++ says ls) (sym (none_last _ chars _ c.is_empty.ensures c.if-not-is_empty.false (c.as_slice.ensures.text ∙ e)))

-- No cycle, or one. Assumes nothing.
use Rattle.std.proofs.Common.{ap, ◌∙◌, ◌++◌, List, ℕ}
use Rattle.text.specs.Texts.{with_piece}
use Rattle.load_text.specs.Printing.{cycle_text}
use Rattle.load_text.proofs.PrintingLaws.{none_put, one_put}
use Rattle.load_text.proofs.put_cycle.Goals as goal

pub returns-then-c-eq0 : goal.returns-then-c-eq0
returns-then-c-eq0 g c = none_put c.args.c _ _ c.if-c-eq0.true

pub returns : goal.returns
returns g c =
    let a = c.args in
    let t = c.as_slice.ensures.text ∙ c.put_line.ensures ∙ ap (λ (t : List ℕ). t ++ cycle_text a.c) c.new-line.ensures in
    one_put a.c _ a.text.now _ c.if-c-eq0.false (c.add.ensures ∙ ap (with_piece _ a.text.now) t)

-- The text of a line is put whole. Assumes nothing.
use Rattle.std.proofs.Common.{ap, ◌++◌, List, ℕ, ◌∙◌}
use Rattle.text.specs.Texts.{with_piece}
use Rattle.script_text.specs.Made.{outcome_of}
use Rattle.script_text.specs.Printing.{printed}
use Rattle.script.proofs.playing.show.Goals as goal

pub returns-clause-text : goal.returns-clause-text
returns-clause-text g c =
    let a = c.args in
    c.add.ensures
    ∙ ap (with_piece _ a.page.now)
    (c.as_slice.ensures.text ∙ c.put_line.ensures.text ∙ ap (λ (t : List ℕ). t ++ printed a.view a.number a.bad (outcome_of a.made)) c.new-text.ensures)

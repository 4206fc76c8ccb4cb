use Rattle.std.proofs.Common.{◌++◌, List, ℕ, ap, ◌∙◌}
use Rattle.removals.specs.Removals.{which_of}
use Rattle.which.specs.Printing.{which_text}
use Rattle.which.proofs.ReadingLaws.{told}
use Rattle.which.proofs.running.Script.tell.Goals as goal

pub returns : goal.returns
returns c =
    told c.args.self.now c.which_frame.result _ (c.which_frame.ensures ∙ ap which_of c.self.view_is)
    (c.put_which.ensures ∙ ap (λ (t : List ℕ). t ++ which_text c.which_frame.result) c.new-page.ensures)

use Rattle.std.proofs.Common.{◌∙◌, sym}
use Rattle.frame_words.proofs.WordLaws.{same_told}
use Rattle.frame_words.proofs.CalledLaws.{first_here}
use Rattle.frame_words.proofs.called.called_by.Goals as goal

pub returns-then-eq : goal.returns-then-eq
returns-then-eq c =
    first_here c.args.word.now _ c.loop-kind.kind-index _ c.loop-kind-test.true (same_told _ _ (sym c.if-eq.true ∙ c.eq.ensures) ∙ c.word.ensures) ∙ c.loop-kind.invariant

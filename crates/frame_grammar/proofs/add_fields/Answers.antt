use Rattle.std.proofs.Common.{◌∙◌, sym}
use Rattle.frame_grammar.specs.Grammar.{form_field}
use Rattle.frame_grammar.proofs.GrammarLaws.{fields_turn}
use Rattle.frame_grammar.proofs.add_fields.Goals as goal

pub loop-name-preserved : goal.loop-name-preserved
unfolding form_field
loop-name-preserved c = rw (c.add_places.ensures, c.add-in-loop-name.ensures, c.add.ensures) (sym (fields_turn c.args.fields.now c.loop-name.name-index c.loop-name.page _ c.loop-name-test.true) ∙ c.loop-name.invariant)

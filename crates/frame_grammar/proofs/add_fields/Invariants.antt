-- The fields that are left, put after those that stand, give the whole.
use Rattle.std.proofs.Common.{◌≡◌, drop}
use Rattle.frame_words.specs.Table.{fields_in}
use Rattle.frame_grammar.specs.Grammar.{form_fields}
use Rattle.frame_grammar.proofs.add_fields.Given as goal

abbrev pub invariant-loop-name : goal.invariant-loop-name
invariant-loop-name l = form_fields (fields_in (drop l.name-index l.fields)) l.page ≡ form_fields (fields_in l.fields) l.fn.page

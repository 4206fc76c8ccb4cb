-- The lines that are left, put after those that stand, give the whole.
use Rattle.std.proofs.Common.{◌≡◌, drop}
use Rattle.frame_grammar.specs.Grammar.{form_lines}
use Rattle.frame_grammar.proofs.add_lines.Given as goal

abbrev pub invariant-loop-kind : goal.invariant-loop-kind
invariant-loop-kind l = form_lines (drop l.kind-index l.all) l.page ≡ form_lines l.all l.fn.page

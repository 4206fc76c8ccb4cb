-- The kinds that are left decide.
use Rattle.std.proofs.Common.{◌≡◌, drop}
use Rattle.frame_words.specs.Called.{first_of, called}
use Rattle.frame_words.proofs.called.called_by.Given as goal

abbrev pub invariant-loop-kind : goal.invariant-loop-kind
invariant-loop-kind l = first_of l.word (drop l.kind-index l.all) ≡ called l.word

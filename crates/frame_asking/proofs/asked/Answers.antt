-- The line's first word is what it is called. Assumes nothing.
use Rattle.std.proofs.Common.{◌≡◌, List, ℕ, take, sym, ap, ◌∙◌}
use Rattle.std.specs.Prelude.{Option, Some, None}
use Rattle.frame_words.specs.Words.{word_end}
use Rattle.frame_words.specs.declared.called.Called.{Called}
use Rattle.frame_words.specs.declared.called.Called.TheVariants.{Named, Body}
use Rattle.frame_asking.specs.Outcome.{by_word, outcome_of}
use Rattle.frame_words.specs.Called.{called}
use Rattle.frame_words.proofs.WordLaws.{word_first, first_length}
use Rattle.frame_asking.proofs.OutcomeLaws.{asked_by}
use Rattle.frame_asking.proofs.asked.Goals as goal

pub slice_bounds-called_by-end : goal.slice_bounds-called_by-end
slice_bounds-called_by-end c = first_length c.args.line.now _ c.word_end-end.ensures

-- what a line asks for whose first word, which ends at e, is called k
asks : (s : List ℕ) (e : ℕ) (k : Option Called) → e ≡ word_end s 0 → k ≡ called (take e s) → outcome_of s ≡ by_word k s e
asks s e k p q = asked_by s k (ap called (sym (word_first s e p)) ∙ sym q) ∙ ap (by_word k s) (sym p)

pub returns-in-Some-Named-clause-told : goal.returns-in-Some-Named-clause-told
returns-in-Some-Named-clause-told c =
    let w = c.in-Some-Named in
    rw (asks c.args.line.now _ (Some (Named w.kind)) c.word_end-end.ensures (rw w.field-0-is at w.ensures)) c.by_kind.ensures.told

pub returns-in-Some-Body-clause-told : goal.returns-in-Some-Body-clause-told
returns-in-Some-Body-clause-told c =
    let w = c.in-Some-Body in
    rw (asks c.args.line.now _ (Some Body) c.word_end-end.ensures (rw w.field-0-is at w.ensures)) c.by_body.ensures.told

pub returns-in-None-clause-told : goal.returns-in-None-clause-told
returns-in-None-clause-told c = rw (asks c.args.line.now _ None c.word_end-end.ensures c.in-None.ensures)

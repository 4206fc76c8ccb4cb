-- Laws of a step: a line past the millionth, one before it, and one after the work has ended. Assumes nothing.
use mathlib.Core.Bool.{true, false}
use mathlib.Core.List.{[], ◌∷◌}
use mathlib.Core.Path.{◌≡◌, refl, sym, ap, ◌∙◌}
use Prim.Native.Nat.{ℕ, ◌≤◌, ◌<◌}
use borrow.Author.Tests.{le-leb, lt-leb}
use denote.Enum.Declared.{tag_of}
use types.Run.{OneOf, miss}
use Rattle.std.specs.declared.option.Option.{Option}
use Rattle.base.proofs.Choosing.{choose_true, choose_false, absurdly}
use Rattle.stretches.specs.declared.Kept.{Kept}
use Rattle.worst.specs.Journeys.{most_lines}
use Rattle.worst.specs.declared.reading.Journey.{Journey}
use Rattle.worst.specs.Reading.{is_counting, with_line, read_in, read_line}
use Rattle.worst.specs.declared.reading.Work.{Work}
use Rattle.worst.specs.declared.reading.Work.TheVariants.{Counting, Long, Bad}
use Rattle.worst.specs.contracts.reading.Work as work-type

-- ---- whether lines are counted
pub not_counting : (w : Work) → OneOf (1 ∷ 2 ∷ []) (tag_of work-type.the_type w) → false ≡ is_counting w
not_counting Counting k = absurd (miss (1 ∷ 2 ∷ []) 0 tt k)
not_counting Long k = refl
not_counting Bad k = refl

pub is_counting_lem : (w : Work) → is_counting w ≡ true → w ≡ Counting
is_counting_lem Counting e = refl
is_counting_lem Long e = absurdly (cc)
is_counting_lem Bad e = absurdly (cc)

-- ---- a line once the work has ended
pub read_ended : (h : Journey) (count : Option ℕ) → is_counting h.work ≡ false → h ≡ read_line h count
unfolding read_line
read_ended h count e = by h.kept h.work e
  where
    by : (k : Kept) (w : Work) → is_counting w ≡ false → record { kept = k; work = w } ≡ read_in k w count
    by k Counting e = absurdly (cc)
    by k Long e = refl
    by k Bad e = refl

-- ---- a line while they are
module _ (h : Journey) (count : Option ℕ) (e : h.work ≡ Counting) where
  pub read_past : most_lines ≤ h.kept.tally.lines → record { kept = h.kept; work = Long } ≡ read_line h count
  unfolding read_line
  read_past p = sym (ap (λ (w : Work). read_in h.kept w count) e ∙ choose_true _ _ (le-leb most_lines h.kept.tally.lines p))

  pub read_line_lem : h.kept.tally.lines < most_lines → with_line h.kept count ≡ read_line h count
  unfolding read_line
  read_line_lem p = sym (ap (λ (w : Work). read_in h.kept w count) e ∙ choose_false _ _ (lt-leb most_lines h.kept.tally.lines p))

-- THE WHOLE: what the steps hold after any lines gives the text that is defined over the list of all lines. Assumes nothing.
use mathlib.Core.Bool.{Bool, true, false, not}
use mathlib.Core.List.{List, [], ◌∷◌, ◌++◌}
use mathlib.Core.Path.{◌≡◌, refl, sym, ap, ap₂, ◌∙◌}
use Prim.Native.Nat.{ℕ, ◌+◌, ◌≤◌, ◌<◌}
use native.Mathlib.Omega.{arith}
use borrow.Author.Tests.{lt-ltb, le-ltb, ltb-true, ltb-false}
use lib.Dec.{ltb}
use lib.ListN.{length}
use Rattle.std.specs.Prelude.{None, Some, OnOk, OnErr}
use Rattle.std.specs.declared.option.Option.{Option}
use Rattle.std.specs.declared.result.Result.{Result}
use Rattle.base.specs.Choice.{choose}
use Rattle.base.proofs.Choosing.{choose_true, choose_false, by_test}
use Rattle.text.specs.BadLines.{bad_text}
use Rattle.console.specs.Lines.{lines_of}
use Rattle.console.specs.Programs.{Quiet, next_all, says_all, transcript}
use Rattle.console.specs.Handing.{Printed, PrintedFront}
use Rattle.console.specs.Speaking.{spoken}
use Rattle.console.proofs.HandingLaws.{printed_as, begun_as}
use Rattle.console.proofs.SpeakingLaws.{quiet_rest, transcript_spoken}
use Rattle.stretches.specs.Stretches.{stretch, Worst}
use Rattle.stretches.specs.Rolling.{after, after_all}
use Rattle.stretches.specs.declared.Kept.{Kept}
use Rattle.stretches.specs.declared.Tally.{Tally}
use Rattle.stretches.proofs.StepLaws.{counted_lines}
use Rattle.stretches.proofs.Whole.{Counts, counts_lines, counts_worst}
use Rattle.worst.specs.Journeys.{most_lines, count_of, Lines, counts, long, bad_at, with_count, lines_from, sum_text, short_text, long_text, lines_text, worst_text}
use Rattle.worst.specs.declared.reading.Journey.{Journey}
use Rattle.worst.specs.Reading.{started, is_counting, with_line, read_line, result_text, reading, journey_text}
use Rattle.worst.specs.declared.reading.Work.TheVariants.{Counting, Long, Bad}
use Rattle.worst.proofs.CountLaws.{Small, count_small}
use Rattle.worst.proofs.ReadingLaws.{read_ended, read_past, read_line_lem}

-- ---- once the work has ended
pub quiet : (h : Journey) → is_counting h.work ≡ false → Quiet reading h
quiet h e = record { stays = λ l. sym (read_ended h (count_of l) e); silent = λ l. refl }

-- what is printed after the lines, from what is held before them
abbrev printed : Journey → List (List ℕ) → List ℕ
printed h ls = let r = next_all reading h ls in result_text r.work r.kept.tally

ended : (h : Journey) (ls : List (List ℕ)) → is_counting h.work ≡ false → printed h ls ≡ result_text h.work h.kept.tally
ended h ls e = ap (λ (r : Journey). result_text r.work r.kept.tally) (quiet_rest reading h (quiet h e) ls).0

-- ---- all lines: what they are, and what is held before them
abbrev rest : Kept → Lines → List ℕ
rest k (counts cs) = result_text Counting (after_all k cs).tally
rest k long = long_text
rest k (bad_at n) = bad_text n

abbrev going : Kept → Journey
going k = record { kept = k; work = Counting }

long_is : (p : Tally) → result_text Long p ≡ long_text
unfolding result_text
long_is p = refl

bad_is : (p : Tally) → result_text Bad p ≡ bad_text (p.lines + 1)
unfolding result_text
bad_is p = refl

-- a count, and the lines after it
rest_count : (k : Kept) (n c : ℕ) (ls : Lines) → rest (after k c) ls ≡ rest k (with_count n (Some c) ls)
rest_count k n c (counts cs) = refl
rest_count k n c long = refl
rest_count k n c (bad_at m) = refl

module _ (n : ℕ) (l : List ℕ) (ls : List (List ℕ)) where
  from_past : most_lines < n → lines_from n (l ∷ ls) ≡ long
  unfolding lines_from
  from_past h = choose_true _ _ (lt-ltb most_lines n h)

  from_line : n ≤ most_lines → lines_from n (l ∷ ls) ≡ with_count n (count_of l) (lines_from (n + 1) ls)
  unfolding lines_from
  from_line h = choose_false _ _ (le-ltb most_lines n h)

from_none : (n : ℕ) → lines_from n [] ≡ counts []
unfolding lines_from
from_none n = refl

from : (ls : List (List ℕ)) (k : Kept) (n : ℕ) → k.tally.lines ≡ n → n ≤ most_lines → printed (going k) ls ≡ rest k (lines_from (n + 1) ls)
from [] k n e h = sym (ap (rest k) (from_none (n + 1)))
from (l ∷ ls) k n e h = by (ltb most_lines (n + 1)) refl (count_of l) refl (λ c. from ls (after k c) (n + 1))
  where
    by : (t : Bool) → ltb most_lines (n + 1) ≡ t → (x : Option ℕ) → count_of l ≡ x
        → ((c : ℕ) → (after k c).tally.lines ≡ n + 1 → n + 1 ≤ most_lines → printed (going (after k c)) ls ≡ rest (after k c) (lines_from (n + 1 + 1) ls))
        → printed (going k) (l ∷ ls) ≡ rest k (lines_from (n + 1) (l ∷ ls))
    by true t x q r =
        let m : most_lines < n + 1 = ltb-true _ _ t in
        ap (λ (y : Journey). printed y ls) (sym (read_past (going k) (count_of l) refl (omega arith)))
        ∙ ended (record { kept = k; work = Long }) ls refl
        ∙ long_is k.tally
        ∙ sym (ap (rest k) (from_past (n + 1) l ls m))
    by false t None q r =
        let m : n + 1 ≤ most_lines = ltb-false _ _ t in
        ap (λ (y : Journey). printed y ls) (sym (read_line_lem (going k) (count_of l) refl (omega arith)) ∙ ap (with_line k) q)
        ∙ ended (with_line k None) ls refl
        ∙ bad_is k.tally
        ∙ ap (λ (m : ℕ). bad_text (m + 1)) e
        ∙ sym (ap (rest k) (from_line (n + 1) l ls m ∙ ap (λ (y : Option ℕ). with_count (n + 1) y (lines_from (n + 1 + 1) ls)) q))
    by false t (Some c) q r =
        let m : n + 1 ≤ most_lines = ltb-false _ _ t in
        ap (λ (y : Journey). printed y ls) (sym (read_line_lem (going k) (count_of l) refl (omega arith)) ∙ ap (with_line k) q)
        ∙ r c (counted_lines k.tally _ c (omega arith) ∙ ap (λ (z : ℕ). z + 1) e) m
        ∙ rest_count k (n + 1) c (lines_from (n + 1 + 1) ls)
        ∙ sym (ap (rest k) (from_line (n + 1) l ls m ∙ ap (λ (y : Option ℕ). with_count (n + 1) y (lines_from (n + 1 + 1) ls)) q))

-- ---- the counts of lines that have no fault: none above 255, and a million at most
abbrev Fit : ℕ → Lines → Type 0
Fit n (counts cs) = Counts cs × (n + length cs ≤ most_lines + 1)
Fit n long = Unit
Fit n (bad_at m) = Unit

fit_count : (n : ℕ) (x : Option ℕ) (ls : Lines) → Small x → Fit (n + 1) ls → Fit n (with_count n x ls)
fit_count n None ls s f = tt
fit_count n (Some c) (counts cs) s f = ((s, f.0), omega (arith, f.1))
fit_count n (Some c) long s f = tt
fit_count n (Some c) (bad_at m) s f = tt

fit : (n : ℕ) (ls : List (List ℕ)) → n ≤ most_lines + 1 → Fit n (lines_from n ls)
unfolding lines_from
fit n [] h = (tt, omega arith)
fit n (l ∷ ls) h =
    by_test (Fit n) (ltb most_lines n) (λ e. tt)
    (λ e. let m : n ≤ most_lines = ltb-false _ _ e in fit_count n (count_of l) (lines_from (n + 1) ls) (count_small l) (fit (n + 1) ls (omega arith)))

-- ---- from the start
counts_text : (cs : List ℕ) → Counts cs → length cs ≤ most_lines → result_text Counting (after_all started.kept cs).tally ≡ lines_text (counts cs)
unfolding result_text
counts_text cs k h =
    ap₂ (λ (n : ℕ) (w : Worst). choose (ltb n stretch) short_text (sum_text w)) (counts_lines cs k (omega arith)) (counts_worst cs k (omega arith))

start_text : (ls : Lines) → Fit 1 ls → rest started.kept ls ≡ lines_text ls
start_text (counts cs) f = counts_text cs f.0 (omega (arith, f.1))
start_text long f = refl
start_text (bad_at n) f = refl

-- THE THEOREM: for any lines, and so for any input
pub lines_worst : (ls : List (List ℕ)) → printed started ls ≡ worst_text ls
unfolding worst_text
lines_worst ls = from ls started.kept 0 refl (omega arith) ∙ start_text (lines_from 1 ls) (fit 1 ls (omega arith))

pub says_none : (h : Journey) (ls : List (List ℕ)) → says_all reading h ls ≡ []
says_none h [] = refl
says_none h (l ∷ ls) = says_none (read_line h (count_of l)) ls

pub input_worst : (input : List ℕ) → transcript reading input ≡ worst_text (lines_of input)
input_worst input = ap (λ (t : List ℕ). t ++ printed started (lines_of input)) (says_none started (lines_of input)) ∙ lines_worst (lines_of input)

pub not_so : (b : Bool) → not b ≡ true → b ≡ false
not_so true e = sym e
not_so false e = refl

-- ---- what the program says from the start on
said_all : (page : List ℕ) (h : Journey) → page ≡ [] → h ≡ started → (input : List ℕ) → page ++ spoken reading h (lines_of input) ≡ journey_text input
said_all page h p s input = rw (p, s) (transcript_spoken reading input ∙ input_worst input)

module _ {T E : Type 0} (r : Result T E) (page : List ℕ) (h : Journey) (known left old new : Option (List ℕ)) where
  pub all_printed : OnOk r (Printed (λ all. page ++ spoken reading h (lines_of all)) known left old new) → page ≡ [] → h ≡ started
      → OnOk r (Printed journey_text known left old new)
  all_printed x p s = printed_as r _ _ (said_all page h p s) known left old new x

  pub all_begun : OnErr r (PrintedFront (λ all. page ++ spoken reading h (lines_of all)) known left old new) → page ≡ [] → h ≡ started
      → OnErr r (PrintedFront journey_text known left old new)
  all_begun x p s = begun_as r _ _ (said_all page h p s) known left old new x

-- Document 02, request 11: the lines of a journey, and what is printed for them, over the list of all lines. Assumes nothing.
use Rattle.std.specs.Prelude.{Bool, false, List, [], ◌∷◌, ◌++◌, ℕ, ◌+◌, eqb, ltb, length, None, Some}
use Rattle.std.specs.declared.option.Option.{Option}
use Rattle.base.specs.Choice.{choose}
use Rattle.text.specs.BadLines.{bad_text}
use Rattle.text.specs.Decimal.{decimal_of, decimal_text}
use Rattle.stretches.specs.Stretches.{stretch, most_count, Worst, worst_of}

-- ---- a line
-- "a decimal count of refusals from 0 to 255 without leading zeros": 1 to 3 digits; 0 alone begins with 0
abbrev pub longest : ℕ
longest = 3

abbrev pub is_zero : List ℕ → Bool
is_zero [] = false
is_zero (c ∷ []) = eqb c 0x30
is_zero (c ∷ d ∷ cs) = false

unfoldable pub count_of : List ℕ → Option ℕ
count_of cs =
    choose (ltb longest (length cs)) None
    (choose (is_zero cs) (Some 0)
    (decimal_of most_count cs))

-- ---- all lines
-- "for up to a million cycles"
abbrev pub most_lines : ℕ
most_lines = 1000000

-- the lines are counts; or one is past the millionth; or one up to the millionth, with this number, has another form
pub data Lines : Type 0 where
  counts : (cs : List ℕ) → Lines
  long : Lines
  bad_at : (n : ℕ) → Lines

-- the line with number n, and the lines after it
abbrev pub with_count : ℕ → Option ℕ → Lines → Lines
with_count n None ls = bad_at n
with_count n (Some c) (counts cs) = counts (c ∷ cs)
with_count n (Some c) long = long
with_count n (Some c) (bad_at m) = bad_at m

-- the lines from number n on, "in order": the first fault ends the work
unfoldable pub lines_from : ℕ → List (List ℕ) → Lines
lines_from n [] = counts []
lines_from n (l ∷ ls) = choose (ltb most_lines n) long (with_count n (count_of l) (lines_from (n + 1) ls))

-- ---- what is printed
-- "on one line, a space between, the largest sum ... and the number of the first line"
unfoldable pub sum_text : Worst → List ℕ
sum_text w = ((decimal_text w.sum ++ (0x20 ∷ [])) ++ decimal_text w.first) ++ (0x0A ∷ [])

-- "SHORT"
abbrev pub short_text : List ℕ
short_text = 0x53 ∷ 0x48 ∷ 0x4F ∷ 0x52 ∷ 0x54 ∷ 0x0A ∷ []

-- "LONG"
abbrev pub long_text : List ℕ
long_text = 0x4C ∷ 0x4F ∷ 0x4E ∷ 0x47 ∷ 0x0A ∷ []

-- "with fewer than 1,000 lines it prints SHORT, any line past the millionth prints LONG, and an earlier one of another form prints its
-- number, a space and BAD"
abbrev pub lines_text : Lines → List ℕ
lines_text (counts cs) = choose (ltb (length cs) stretch) short_text (sum_text (worst_of cs))
lines_text long = long_text
lines_text (bad_at n) = bad_text n

-- WHAT IS PRINTED for a journey, from its lines
unfoldable pub worst_text : List (List ℕ) → List ℕ
worst_text ls = lines_text (lines_from 1 ls)

-- A journey line by line: the counts so far, and whether a line has ended the work. Assumes nothing.
use Rattle.std.specs.Prelude.{Bool, true, false, List, [], ℕ, ◌+◌, leb, ltb, None, Some}
use Rattle.std.specs.declared.option.Option.{Option}
use Rattle.base.specs.Choice.{choose}
use Rattle.console.specs.Lines.{lines_of}
use Rattle.console.specs.Programs.{Program}
use Rattle.text.specs.BadLines.{bad_text}
use Rattle.stretches.specs.Stretches.{stretch}
use Rattle.stretches.specs.Rolling.{begun, after, worst_so_far}
use Rattle.stretches.specs.declared.Kept.{Kept}
use Rattle.stretches.specs.declared.Tally.{Tally}
use Rattle.worst.specs.Journeys.{count_of, most_lines, sum_text, short_text, long_text, worst_text}
use Rattle.worst.specs.declared.reading.Journey.{Journey}
use Rattle.worst.specs.declared.reading.Work.{Work}
use Rattle.worst.specs.declared.reading.Work.TheVariants.{Counting, Long, Bad}

-- whether lines are still counted
abbrev pub is_counting : Work → Bool
is_counting Counting = true
is_counting Long = false
is_counting Bad = false

-- before the first line
abbrev pub started : Journey
started = record { kept = begun; work = Counting }

-- a line up to the millionth
abbrev pub with_line : Kept → Option ℕ → Journey
with_line k (Some c) = record { kept = after k c; work = Counting }
with_line k None = record { kept = k; work = Bad }

-- a line past the millionth is not looked at; once the work has ended, none is
abbrev pub read_in : Kept → Work → Option ℕ → Journey
read_in k Counting count = choose (leb most_lines k.tally.lines) (record { kept = k; work = Long }) (with_line k count)
read_in k Long count = record { kept = k; work = Long }
read_in k Bad count = record { kept = k; work = Bad }

unfoldable pub read_line : Journey → Option ℕ → Journey
read_line h count = read_in h.kept h.work count

-- what is printed at the end
unfoldable pub result_text : Work → Tally → List ℕ
result_text Counting p = choose (ltb p.lines stretch) short_text (sum_text (worst_so_far p))
result_text Long p = long_text
result_text Bad p = bad_text (p.lines + 1)

-- as a program that answers lines; all is said at the end
abbrev pub reading : Program Journey
reading = record {
  start = started;
  first = [];
  next = λ h l. read_line h (count_of l);
  says = λ h l. [];
  ends = λ h. result_text h.work h.kept.tally;
}

-- what is printed for a journey, from its bytes
abbrev pub journey_text : List ℕ → List ℕ
journey_text input = worst_text (lines_of input)

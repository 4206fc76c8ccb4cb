-- The worst stretch count by count: the last 1,000 counts, their sum, and the worst stretch so far. Assumes nothing.
use Rattle.std.specs.Prelude.{ℕ, ◌+◌, ◌-◌, ◌%◌, ◌^◌, ◌&&◌, List, [], ◌∷◌, replicate, nat_le, nat_lt, slice_index, slice_set}
use Rattle.base.specs.Choice.{choose}
use Rattle.stretches.specs.Stretches.{stretch, first_number, Worst}
use Rattle.stretches.specs.declared.Tally.{Tally}
use Rattle.stretches.specs.declared.Kept.{Kept}

-- the last 1,000 counts, that of line n at place (n − 1) modulo 1,000; what else is kept of the journey
abbrev pub kept : List ℕ → Tally → Kept
kept last p = record { last = last; tally = p }

-- before the first line: counts of 0; the stretch from line 1 on stands until one has a larger sum
abbrev pub no_counts : List ℕ
no_counts = replicate stretch 0

abbrev pub start : Tally
start = record { lines = 0; sum = 0; largest = 0; first = first_number }

abbrev pub begun : Kept
begun = kept no_counts start

-- where the count is put that comes after n lines, and the count there, which leaves the stretch
abbrev pub place : ℕ → ℕ
place n = n % stretch

abbrev pub oldest : List ℕ → Tally → ℕ
oldest last p = slice_index last (place p.lines)

-- numbers are those of 32 bits
unfoldable pub sum_after : ℕ → ℕ → ℕ → ℕ
sum_after sum oldest c = (sum + c + (2 ^ 32 - oldest)) % 2 ^ 32

unfoldable pub lines_after : ℕ → ℕ
lines_after n = (n + 1) % 2 ^ 32

-- from the thousandth line on a stretch ends with each line; it is the worst so far if its sum is above the largest
unfoldable pub judged : Tally → ℕ → ℕ → Tally
judged p lines sum =
    choose (nat_le stretch lines && nat_lt p.largest sum) (record { lines = lines; sum = sum; largest = sum; first = lines - stretch + first_number })
    (record { lines = lines; sum = sum; largest = p.largest; first = p.first })

-- a count more
unfoldable pub counted : Tally → ℕ → ℕ → Tally
counted p oldest c = judged p (lines_after p.lines) (sum_after p.sum oldest c)

abbrev pub after : Kept → ℕ → Kept
after s c = kept (slice_set s.last (place s.tally.lines) c) (counted s.tally (oldest s.last s.tally) c)

abbrev pub after_all : Kept → List ℕ → Kept
after_all s [] = s
after_all s (c ∷ cs) = after_all (after s c) cs

-- the worst stretch so far
abbrev pub worst_so_far : Tally → Worst
worst_so_far p = record { sum = p.largest; first = p.first }

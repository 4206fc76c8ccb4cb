-- Document 02, request 11: the worst 1,000 cycles of a journey, over the list of its counts. Assumes nothing.
use Rattle.std.specs.Prelude.{ℕ, ◌+◌, max, List, [], ◌∷◌, length, take, ◌==◌, nat_le}
use Rattle.base.specs.Choice.{choose}

-- "1,000 consecutive cycles"
abbrev pub stretch : ℕ
stretch = 1000

-- "from 0 to 255"
abbrev pub most_count : ℕ
most_count = 255

unfoldable pub sum : List ℕ → ℕ
sum [] = 0
sum (c ∷ cs) = c + sum cs

-- the sum of every stretch of k counts, in the order of their first lines
unfoldable pub sums : ℕ → List ℕ → List ℕ
sums k [] = []
sums k (c ∷ cs) = choose (nat_le k (length (c ∷ cs))) (sum (take k (c ∷ cs)) ∷ sums k cs) []

-- "the largest sum"
unfoldable pub largest : List ℕ → ℕ
largest [] = 0
largest (s ∷ ss) = max s (largest ss)

-- lines are numbered from 1 on
abbrev pub first_number : ℕ
first_number = 1

-- "the earliest such stretch": the number of the first that has the sum m, where they are numbered from n on; without stretches, n
unfoldable pub earliest : ℕ → ℕ → List ℕ → ℕ
earliest n m [] = n
earliest n m (s ∷ ss) = choose (s == m) n (earliest (n + 1) m ss)

-- "the largest sum over 1,000 consecutive cycles and the number of the first line of the earliest such stretch"
pub record Worst : Type 0 where
  pub sum : ℕ
  pub first : ℕ

-- THE WORST STRETCH of a journey, from its counts
unfoldable pub worst_of : List ℕ → Worst
worst_of cs = record { sum = largest (sums stretch cs); first = earliest first_number (largest (sums stretch cs)) (sums stretch cs) }

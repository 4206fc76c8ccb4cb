-- Pieces put in a lent buffer, one after another: each whole if it fits, else not at all. Assumes nothing.
use Rattle.std.specs.Prelude.{List, [], ◌∷◌, ℕ, length}
use Rattle.text.specs.Putting.{put_at, place_after}

-- the buffer, and the next index in it
abbrev pub Lent : Type 0
Lent = List ℕ × ℕ

abbrev pub put : Lent → List ℕ → Lent
put t s = (put_at t.0 t.1 s, place_after (length t.0) t.1 s)

abbrev pub puts : Lent → List (List ℕ) → Lent
puts t [] = t
puts t (s ∷ ss) = puts (put t s) ss

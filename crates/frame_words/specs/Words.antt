-- The words of a line. Assumes nothing.
use Rattle.std.specs.Prelude.{Bool, true, false, ◌&&◌, List, [], ◌∷◌, ℕ, ◌+◌, eqb, length, drop}
use Rattle.base.specs.Choice.{choose}

-- the characters before the first space, or all if there is none
unfoldable pub word_in : List ℕ → List ℕ
word_in [] = []
word_in (c ∷ cs) = choose (eqb c 0x20) [] (c ∷ word_in cs)

-- the word that begins at index i, and the index after it
abbrev pub word_at : List ℕ → ℕ → List ℕ
word_at s i = word_in (drop i s)

abbrev pub word_end : List ℕ → ℕ → ℕ
word_end s i = i + length (word_at s i)

-- whether a text starts with another
unfoldable pub starts : List ℕ → List ℕ → Bool
starts s [] = true
starts [] (p ∷ ps) = false
starts (c ∷ cs) (p ∷ ps) = eqb c p && starts cs ps

-- whether a text is that other
unfoldable pub same : List ℕ → List ℕ → Bool
same s p = starts s p && eqb (length s) (length p)

-- The lines of an input: each ends with LF, and the last may lack it. Assumes nothing.
use Rattle.std.specs.Prelude.{◌≡◌, List, [], ◌∷◌, ℕ, eqb}
use Rattle.base.specs.Choice.{choose}

-- a character in front of the first line
abbrev pub onto : ℕ → List (List ℕ) → List (List ℕ)
onto c [] = (c ∷ []) ∷ []
onto c (l ∷ ls) = (c ∷ l) ∷ ls

unfoldable pub lines_of : List ℕ → List (List ℕ)
lines_of [] = []
lines_of (c ∷ cs) = choose (eqb c 0x0A) ([] ∷ lines_of cs) (onto c (lines_of cs))

-- characters with no LF among them
abbrev pub Free : List ℕ → Type 0
Free [] = Unit
Free (c ∷ cs) = (c ≡ 0x0A → ⊥) × Free cs

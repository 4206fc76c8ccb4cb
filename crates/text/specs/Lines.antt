-- Lines of input: the bytes up to the first LF, and behind it. Assumes nothing.
use Rattle.std.specs.Prelude.{Bool, true, false, List, [], ◌∷◌, ℕ, eqb}
use Rattle.base.specs.Choice.{choose}

-- the end of a line
abbrev pub is_end : ℕ → Bool
is_end c = eqb c 0x0A

-- the characters before the first LF
unfoldable pub before_end : List ℕ → List ℕ
before_end [] = []
before_end (c ∷ cs) = choose (eqb c 0x0A) [] (c ∷ before_end cs)

-- whether there is one
unfoldable pub has_end : List ℕ → Bool
has_end [] = false
has_end (c ∷ cs) = choose (eqb c 0x0A) true (has_end cs)

-- what follows it
unfoldable pub after_end : List ℕ → List ℕ
after_end [] = []
after_end (c ∷ cs) = choose (eqb c 0x0A) cs (after_end cs)

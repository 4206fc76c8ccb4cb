-- A text in quotes as the list of its characters' numbers. Assumes nothing.
use Rattle.std.specs.Prelude.{List, [] as nil, ◌∷◌ as cons, ℕ}
use Prim.Native.Char.{code}
use Prim.Native.String.{String, [], ◌∷◌}

abbrev pub chars : String → List ℕ
chars [] = nil
chars (c ∷ s) = cons (code c) (chars s)

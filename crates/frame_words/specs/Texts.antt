-- A text put together piece by piece: each is added whole, or not at all if it does not fit. Assumes nothing.
use Rattle.std.specs.Prelude.{List, [], ◌∷◌, ℕ}
use Rattle.text.specs.Texts.{with_piece}

abbrev pub Text : Type 0
Text = List ℕ

-- room for a line of 1,200 characters with its LF, and for the page of the grammar
abbrev pub room : ℕ
room = 2048

abbrev pub put : List ℕ → List ℕ → List ℕ
put t s = with_piece room t s

-- a text as a line, with its LF
abbrev pub end_line : List ℕ → List ℕ
end_line t = put t (0x0A ∷ [])

-- pieces, one after another
abbrev pub puts : List ℕ → List (List ℕ) → List ℕ
puts t [] = t
puts t (s ∷ ss) = puts (put t s) ss

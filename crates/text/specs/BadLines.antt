-- What programs print for a line that has not the right form. Assumes nothing.
use Rattle.std.specs.Prelude.{List, [], ◌∷◌, ◌++◌, ℕ}
use Rattle.text.specs.Decimal.{decimal_text}

-- the line's number, a space and BAD
unfoldable pub bad_text : ℕ → List ℕ
bad_text n = decimal_text n ++ (0x20 ∷ 0x42 ∷ 0x41 ∷ 0x44 ∷ 0x0A ∷ [])

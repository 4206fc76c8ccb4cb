-- A text put together piece by piece, with room for so many characters: a piece is added whole, or not at all if it does not fit.
-- Assumes nothing.
use Rattle.std.specs.Prelude.{List, ◌++◌, ℕ, ◌+◌, leb, length}
use Rattle.base.specs.Choice.{choose}

unfoldable pub with_piece : ℕ → List ℕ → List ℕ → List ℕ
with_piece room text piece = choose (leb (length text + length piece) room) (text ++ piece) text

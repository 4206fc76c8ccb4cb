-- Text put at an index of a buffer: whole if it fits, else not at all. Assumes nothing.
use Rattle.std.specs.Prelude.{◌≡◌, List, [], ◌∷◌, ◌++◌, ℕ, ◌+◌, ◌/◌, ◌%◌, leb, ltb, length}
use Rattle.std.proofs.lemmas.List.Edits.{sets}
use Rattle.base.specs.Choice.{choose}

-- the buffer afterwards
unfoldable pub put_at : List ℕ → ℕ → List ℕ → List ℕ
put_at buf at text = choose (leb (at + length text) (length buf)) (sets buf at text) buf

-- and the next index, in a buffer of n bytes
unfoldable pub place_after : ℕ → ℕ → List ℕ → ℕ
place_after n at text = choose (leb (at + length text) n) (at + length text) at

-- a capital hex digit, and the two of a byte
unfoldable pub digit_of : ℕ → ℕ
digit_of n = choose (ltb n 10) (n + 0x30) (n + 0x37)

unfoldable pub hex_digits : ℕ → List ℕ
hex_digits b = digit_of (b / 16) ∷ digit_of (b % 16) ∷ []

-- bytes in two digits each
unfoldable pub hex_text : List ℕ → List ℕ
hex_text [] = []
hex_text (b ∷ bs) = hex_digits b ++ hex_text bs

-- ---- the steps of the code
-- a text put whole
abbrev pub Wrote : List ℕ → ℕ → List ℕ → ℕ → List ℕ → Type 0
Wrote buf at text r out = (r ≡ at + length text) × (out ≡ sets buf at text)

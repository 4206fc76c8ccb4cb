-- The lines of a list that are not frames by their fields: those that print nothing, and a script's own. Assumes nothing.
use Rattle.std.specs.Prelude.{Bool, true, false, ◌&&◌, ◌||◌, List, [], ℕ, eqb, ltb, length, drop, get_or, None, Option, Some}
use Rattle.base.specs.Choice.{within}
use Rattle.text.specs.Hex.{hex_pairs}
use Rattle.frame_words.specs.Chars.{chars}
use Rattle.frame_words.specs.Words.{word_at, starts, same}

-- an empty line, or a comment
unfoldable pub is_silent : List ℕ → Bool
is_silent s = same s [] || starts s (chars "#")

-- ticks or inputs of a script, by the first word
unfoldable pub is_ticks_or_inputs : List ℕ → Bool
is_ticks_or_inputs s = same (word_at s 0) (chars "T") || same (word_at s 0) (chars "I")

-- a port digit and a space
unfoldable pub has_port : List ℕ → Bool
has_port s = ltb 1 (length s) && (within 0x30 0x39 (get_or s 0 0) && eqb (get_or s 1 0) 0x20)

-- only pairs of hex digits, perhaps none, from index i on
abbrev pub are_pairs : Option (List ℕ) → Bool
are_pairs None = false
are_pairs (Some bs) = true

unfoldable pub pairs_from : List ℕ → ℕ → Bool
pairs_from s i = are_pairs (hex_pairs (drop i s))

-- a body on a port, as a script has it
unfoldable pub is_port_body : List ℕ → Bool
is_port_body s = has_port s && pairs_from s 2

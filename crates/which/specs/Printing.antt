-- Document 02, request 12: what is printed for a script. Assumes nothing.
use Rattle.std.specs.Prelude.{List, [], ◌∷◌, ◌++◌, ℕ, Some, None, Ok, Err}
use Rattle.text.specs.Decimal.{decimal_text}
use Rattle.removals.specs.Removals.{Which, which_of}
use Rattle.removals.specs.declared.searching.NoSearch.TheVariants.{Long, Fallback}

-- "the smallest line number"
unfoldable pub number_text : ℕ → List ℕ
number_text n = decimal_text n ++ (0x0A ∷ [])

-- "LONG", "FALLBACK", "NONE"
abbrev pub long_text : List ℕ
long_text = 0x4C ∷ 0x4F ∷ 0x4E ∷ 0x47 ∷ 0x0A ∷ []

abbrev pub fallback_text : List ℕ
fallback_text = 0x46 ∷ 0x41 ∷ 0x4C ∷ 0x4C ∷ 0x42 ∷ 0x41 ∷ 0x43 ∷ 0x4B ∷ 0x0A ∷ []

abbrev pub none_text : List ℕ
none_text = 0x4E ∷ 0x4F ∷ 0x4E ∷ 0x45 ∷ 0x0A ∷ []

abbrev pub which_text : Which → List ℕ
which_text (Err Long) = long_text
which_text (Err Fallback) = fallback_text
which_text (Ok (Some n)) = number_text n
which_text (Ok None) = none_text

-- WHAT IS PRINTED for a script, from its bytes
abbrev pub printed : List ℕ → List ℕ
printed input = which_text (which_of input)

-- What a line asks for, after its port if it has one: a frame to build, a body to explain, or the first thing that is
-- wrong. Assumes nothing.
use Rattle.std.specs.Prelude.{List, [], ◌∷◌, ℕ, ◌+◌, ltb, length, drop, replicate, Option, Some, None, Result, Ok, Err}
use Rattle.base.specs.Choice.{choose}
use Rattle.text.specs.Hex.{hex_pairs}
use Rattle.frame_words.specs.Chars.{chars}
use Rattle.frame_words.specs.Words.{word_at, word_end}
use Rattle.frame_words.specs.Table.{fields_of, has_data}
use Rattle.frame_fields.specs.Rows.{ReadRow, read_fields, data_at}
use Rattle.frame_text.specs.Said.{wants, words_of, bad_text}
use Rattle.frame_text.specs.Built.{built_text}
use Rattle.frame_text.specs.Explained.{explained_text}
use Rattle.frame_words.specs.Called.{called}
use Rattle.frame_words.specs.declared.table.Kind.{Kind}
use Rattle.frame_text.specs.declared.said.Wrong.{Wrong}
use Rattle.frame_words.specs.declared.called.Called.{Called}
use Rattle.frame_words.specs.declared.called.Called.TheVariants.{Named, Body}
use Rattle.frame_words.specs.Texts.{Text}

-- a frame by its kind, the numbers of its fields and its data; the bytes of a body; or words of complaint, in pieces
pub data Outcome : Type 0 where
  build : Kind → List ℕ → List ℕ → Outcome
  explain : List ℕ → Outcome
  complain : List (List ℕ) → Outcome

-- nothing may follow the last field
unfoldable pub at_end : List ℕ → ℕ → Kind → List ℕ → List ℕ → Outcome
at_end s at k vs xs = choose (ltb at (length s)) (complain (chars "more behind the last field" ∷ [])) (build k vs xs)

-- the data, if the kind has them
abbrev pub by_data : Option (List ℕ) → List ℕ → ℕ → Kind → List ℕ → Outcome
by_data None s at k vs = complain (chars "data= wants pairs of hex digits" ∷ [])
by_data (Some xs) s at k vs = at_end s (word_end s (at + 1)) k vs xs

unfoldable pub with_data : List ℕ → ℕ → Kind → List ℕ → Outcome
with_data s at k vs = by_data (data_at s at) s at k vs

-- a row of fields, read up to its end, or the field that is missing or wrong
abbrev pub by_row : List ℕ → Kind → ReadRow → Outcome
by_row s k (Ok (vs, at)) = choose (has_data k) (with_data s at k vs) (at_end s at k vs [])
by_row s k (Err e) = complain (wants e.1.0 e.1.1)

-- the fields of a kind, after its word
unfoldable pub by_kind : List ℕ → ℕ → Kind → Outcome
by_kind s at k = by_row s k (read_fields (fields_of k) s at 0 (replicate 8 0))

-- `body`, a space and pairs of hex digits
abbrev pub by_bytes : Option (List ℕ) → Outcome
by_bytes None = complain (chars "body wants pairs of hex digits" ∷ [])
by_bytes (Some bs) = explain bs

unfoldable pub by_body : List ℕ → ℕ → Outcome
by_body s at = choose (ltb at (length s)) (by_bytes (hex_pairs (drop (at + 1) s))) (by_bytes None)

-- the first word decides
abbrev pub by_word : Option Called → List ℕ → ℕ → Outcome
by_word (Some (Named k)) s at = by_kind s at k
by_word (Some Body) s at = by_body s at
by_word None s at = complain (chars "no such kind" ∷ [])

unfoldable pub outcome_of : List ℕ → Outcome
outcome_of s = by_word (called (word_at s 0)) s (word_end s 0)

-- ---- what is printed
-- what is built or explained is put after a start; or the words of a complaint
abbrev pub answered : Text → Outcome → Result Text (List (List ℕ))
answered start (build k vs xs) = Ok (built_text start k vs xs)
answered start (explain bs) = Ok (explained_text start bs)
answered start (complain words) = Err words

-- a complaint is printed without the start, with the line's number
abbrev pub printed : List ℕ → Result Text (List (List ℕ)) → Text
printed number (Ok t) = t
printed number (Err words) = bad_text number words

abbrev pub said : List ℕ → Text → Outcome → Text
said number start o = printed number (answered start o)

-- ---- how the code tells it
abbrev pub told : Result Unit Wrong → Text → Result Text (List (List ℕ))
told (Ok u) t = Ok t
told (Err w) t = Err (words_of w)

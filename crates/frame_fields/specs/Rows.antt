-- The fields of a line, one after another: their numbers, or the first that is wrong. Assumes nothing.
use Rattle.std.specs.Prelude.{List, [], ◌∷◌, ℕ, ◌+◌, ◌*◌, eqb, ltb, length, drop, set, Option, Some, None, Result, Ok, Err}
use Rattle.base.specs.Choice.{choose}
use Rattle.base.specs.Bytes.{number_at}
use Rattle.text.specs.Hex.{hex_pairs}
use Rattle.frame_words.specs.Chars.{chars}
use Rattle.frame_words.specs.Words.{word_at, word_end, starts}
use Rattle.frame_words.specs.Table.{Field}
use Rattle.frame_fields.specs.declared.rows.Row.{Row}
use Rattle.frame_fields.specs.declared.rows.Stopped.{Stopped}

-- the number in the bytes that were read, if they come from `digits` hex digits
abbrev pub value_in : ℕ → Option (List ℕ) → Option ℕ
value_in digits None = None
value_in digits (Some bs) =
    choose (ltb 8 (length bs)) None
    (choose (eqb (length bs * 2) digits) (Some (number_at bs 0 (length bs))) None)

-- a word that is the field's name and then its hex digits
unfoldable pub field_value : Field → List ℕ → Option ℕ
field_value f word = choose (starts word f.0) (value_in f.1 (hex_pairs (drop (length f.0) word))) None

-- a number, and the index after its word
abbrev pub with_end : ℕ → Option ℕ → Option (ℕ × ℕ)
with_end next None = None
with_end next (Some v) = Some (v, next)

-- the word after one space; at the line's end it is missing
unfoldable pub field_at : List ℕ → ℕ → Field → Option (ℕ × ℕ)
field_at s at f = choose (ltb at (length s)) (with_end (word_end s (at + 1)) (field_value f (word_at s (at + 1)))) None

-- the numbers of fields, and the index after them; or the same of those before the first field that is wrong, and that field
abbrev pub ReadRow : Type 0
ReadRow = Result (List ℕ × ℕ) ((List ℕ × ℕ) × Field)

-- the fields from index `at` on, with n read before them: up to the last, or to the first that is wrong
abbrev pub by_value : Option (ℕ × ℕ) → (ℕ → ℕ → ReadRow) → ReadRow → ReadRow
by_value (Some x) go stop = go x.0 x.1
by_value None go stop = stop

unfoldable pub read_fields : List Field → List ℕ → ℕ → ℕ → List ℕ → ReadRow
read_fields [] s at n vs = Ok (vs, at)
read_fields (f ∷ fs) s at n vs = by_value (field_at s at f) (λ v next. read_fields fs s next (n + 1) (set vs n v)) (Err ((vs, at), f))

-- the bytes of data=, the last word
unfoldable pub data_word : List ℕ → Option (List ℕ)
data_word word = choose (starts word (chars "data=")) (hex_pairs (drop 5 word)) None

unfoldable pub data_at : List ℕ → ℕ → Option (List ℕ)
data_at s at = choose (ltb at (length s)) (data_word (word_at s (at + 1))) None

-- ---- how the code tells it: types of its own, and the field's name behind a reference
abbrev pub shown_row : Result Row Stopped → ReadRow
shown_row (Ok r) = Ok (r.values, r.at)
shown_row (Err e) = Err ((e.read.values, e.read.at), (e.field.0.now, e.field.1))

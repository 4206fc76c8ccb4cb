-- A body explained, and put after a text: the frame's kind, fields and data, or the reader's refusal. Assumes nothing.
use Rattle.std.specs.Prelude.{Bool, ◌&&◌, List, [], ◌∷◌, ℕ, ◌+◌, ◌-◌, ◌/◌, eqb, ltb, length, take, drop, get_or, Ok, Err}
use Rattle.base.specs.Choice.{choose}
use Rattle.base.specs.Bytes.{bytes_of}
use Rattle.fields.specs.Fields.{width8}
use Rattle.text.specs.Putting.{hex_text}
use Rattle.frame_kinds.specs.Kinds.{data_in}
use Rattle.frame_reading.specs.Reading.{ReadFrame, read_frame}
use Rattle.frame_kinds.specs.declared.kinds.Frame.{Frame}
use Rattle.frame_words.specs.Chars.{chars}
use Rattle.frame_words.specs.Table.{Field, kind_word, fields_of, has_data}
use Rattle.frame_words.specs.Texts.{Text, put, puts}
use Rattle.frame_fields.specs.Numbers.{kind_of, numbers_of}
use Rattle.frame_text.specs.Said.{refused_reading}

unfoldable pub put_field : Text → Field → ℕ → Text
put_field t f v = puts t (chars " " ∷ f.0 ∷ hex_text (bytes_of (width8 (f.1 / 2)) v) ∷ [])

unfoldable pub put_fields : List Field → List ℕ → ℕ → Text → Text
put_fields [] vs i t = t
put_fields (f ∷ fs) vs i t = put_fields fs vs (i + 1) (put_field t f (get_or vs i 0))

unfoldable pub frame_text : Text → ℕ → Frame → List ℕ → Text
frame_text t a f bytes =
    choose (has_data (kind_of f))
    (puts (put_fields (fields_of (kind_of f)) (numbers_of a f) 0 (put t (kind_word (kind_of f)))) (chars " data=" ∷ hex_text (data_in f bytes) ∷ []))
    (put_fields (fields_of (kind_of f)) (numbers_of a f) 0 (put t (kind_word (kind_of f))))

-- or the reader's refusal
abbrev pub by_reading : Text → ReadFrame → Text
by_reading t (Ok (a, f, app)) = frame_text t a f app
by_reading t (Err e) = refused_reading t e

unfoldable pub read_text : Text → List ℕ → Text
read_text t body = by_reading t (read_frame body)

-- ---- flags, as a trace shows them, are left off
unfoldable pub is_flagged : List ℕ → Bool
is_flagged bs = ltb 1 (length bs) && (eqb (get_or bs 0 0) 0x7E && eqb (get_or bs (length bs - 1) 0) 0x7E)

abbrev pub unflagged : List ℕ → List ℕ
unflagged bs = choose (is_flagged bs) (take (length bs - 2) (drop 1 bs)) bs

unfoldable pub explained_text : Text → List ℕ → Text
explained_text t bs = read_text t (unflagged bs)

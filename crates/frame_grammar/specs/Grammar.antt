-- The grammar: a line for each kind, x for each digit. Assumes nothing.
use Rattle.std.specs.Prelude.{List, [], ◌∷◌, ℕ, take}
use Rattle.base.specs.Choice.{choose}
use Rattle.frame_words.specs.Chars.{chars}
use Rattle.frame_words.specs.Table.{Field, kinds, kind_word, fields_of, has_data}
use Rattle.frame_words.specs.Texts.{Text, put, puts, end_line}
use Rattle.frame_words.specs.declared.table.Kind.{Kind}

unfoldable pub form_field : Text → Field → Text
form_field t f = puts t (chars " " ∷ f.0 ∷ take f.1 (chars "xxxxxxxxxxxxxxxx") ∷ [])

unfoldable pub form_fields : List Field → Text → Text
form_fields [] t = t
form_fields (f ∷ fs) t = form_fields fs (form_field t f)

-- the form of a kind, put after a text; and those of several kinds, each with its LF
unfoldable pub form_text : Text → Kind → Text
form_text t k =
    choose (has_data k) (put (form_fields (fields_of k) (put t (kind_word k))) (chars " data=xx..."))
    (form_fields (fields_of k) (put t (kind_word k)))

abbrev pub form_lines : List Kind → Text → Text
form_lines [] t = t
form_lines (k ∷ ks) t = form_lines ks (end_line (form_text t k))

-- a body; a port before a frame or a body; and the lines that are passed on or left out
abbrev pub other_lines : List (List ℕ)
other_lines =
    chars "body xx...\n"
    ∷ chars "P FRAME: a port digit, a space and any line above\n"
    ∷ chars "P xx..., T ..., I ...: printed unchanged\n"
    ∷ chars "# ...: nothing is printed\n"
    ∷ []

-- THE PAGE: a line for each kind, and the four others
unfoldable pub grammar_text : Text
grammar_text = puts (form_lines kinds []) other_lines

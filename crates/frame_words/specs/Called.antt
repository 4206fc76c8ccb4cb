-- A line's first word: a kind's, or `body`. Assumes nothing.
use Rattle.std.specs.Prelude.{List, [], ◌∷◌, ℕ, Option, Some, None}
use Rattle.base.specs.Choice.{choose}
use Rattle.frame_words.specs.Chars.{chars}
use Rattle.frame_words.specs.Words.{same}
use Rattle.frame_words.specs.Table.{kinds, kind_word}
use Rattle.frame_words.specs.declared.table.Kind.{Kind}
use Rattle.frame_words.specs.declared.called.Called.{Called}
use Rattle.frame_words.specs.declared.called.Called.TheVariants.{Named, Body}

-- the first kind whose word it is; else `body`
abbrev pub first_of : List ℕ → List Kind → Option Called
first_of w [] = choose (same w (chars "body")) (Some Body) None
first_of w (k ∷ ks) = choose (same w (kind_word k)) (Some (Named k)) (first_of w ks)

unfoldable pub called : List ℕ → Option Called
called w = first_of w kinds

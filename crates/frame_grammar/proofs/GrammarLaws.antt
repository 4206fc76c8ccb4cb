-- Laws of the grammar's lines: a turn of each loop, and a line with data and without. Assumes nothing.
use mathlib.Core.Path.{◌≡◌}
use mathlib.Core.Bool.{true, false}
use mathlib.Core.List.{List}
use Prim.Native.Nat.{ℕ, ◌+◌, ◌≤◌, ◌<◌}
use native.Mathlib.Numerals.{add-one}
use denote.Bor.{Bor}
use lib.ListN.{length, drop, get_or, drop_of_length-le}
use lib.Seq.{drop-cons}
use Rattle.frame_words.specs.Chars.{chars}
use Rattle.frame_words.specs.Table.{fields_in, fields_of, has_data, kind_word}
use Rattle.frame_words.specs.Texts.{put, end_line}
use Rattle.frame_grammar.specs.Grammar.{form_field, form_fields, form_text, form_lines}
use Rattle.frame_words.specs.declared.table.Kind.{Kind}

module _ (fs : List (Bor (List ℕ) × ℕ)) (i : ℕ) (t : List ℕ) where
  pub fields_turn : (d : Bor (List ℕ) × ℕ) → i < length fs
      → form_fields (fields_in (drop i fs)) t ≡ form_fields (fields_in (drop (i + 1) fs)) (form_field t ((get_or fs i d).0.now, (get_or fs i d).1))
  unfolding form_fields
  fields_turn d h = rw (drop-cons fs i d h, add-one)

  pub fields_end : length fs ≤ i → form_fields (fields_in (drop i fs)) t ≡ t
  unfolding form_fields
  fields_end h = rw (drop_of_length-le fs h)

module _ (ks : List Kind) (i : ℕ) (t : List ℕ) where
  pub lines_turn : (d : Kind) → i < length ks → form_lines (drop i ks) t ≡ form_lines (drop (i + 1) ks) (end_line (form_text t (get_or ks i d)))
  lines_turn d h = rw (drop-cons ks i d h, add-one)

  pub lines_end : length ks ≤ i → form_lines (drop i ks) t ≡ t
  lines_end h = rw (drop_of_length-le ks h)

pub form_data : (t : List ℕ) (k : Kind) → has_data k ≡ true → put (form_fields (fields_of k) (put t (kind_word k))) (chars " data=xx...") ≡ form_text t k
unfolding form_text
form_data t k e = rw e

pub form_plain : (t : List ℕ) (k : Kind) → has_data k ≡ false → form_fields (fields_of k) (put t (kind_word k)) ≡ form_text t k
unfolding form_text
form_plain t k e = rw e

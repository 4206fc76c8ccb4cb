-- Laws of what a line asks for, one for each case. Assumes nothing.
use mathlib.Core.Path.{◌≡◌, sym, ap, ◌∙◌}
use mathlib.Core.Bool.{true, false}
use mathlib.Core.List.{List, [], ◌∷◌}
use Rattle.std.specs.Prelude.{Option, None, Result, Ok, Err}
use Prim.Native.Nat.{ℕ, ◌+◌, ◌≤◌, ◌<◌}
use borrow.Author.Tests.{lt-ltb, le-ltb}
use lib.ListN.{length, drop, replicate}
use Rattle.text.specs.Hex.{hex_pairs, hex_of}
use Rattle.text.specs.declared.hex.HexFault.{HexFault}
use Rattle.frame_words.specs.Chars.{chars}
use Rattle.frame_words.specs.Words.{word_at, word_end}
use Rattle.frame_words.specs.Table.{fields_of, has_data}
use Rattle.frame_fields.specs.Rows.{shown_row, read_fields, data_at}
use Rattle.frame_text.specs.Said.{wants}
use Rattle.frame_words.specs.Called.{called}
use Rattle.frame_asking.specs.Outcome.{build, complain, at_end, by_data, with_data, by_row, by_kind, by_bytes, by_body, by_word, outcome_of}
use Rattle.frame_words.specs.declared.table.Kind.{Kind}
use Rattle.frame_asking.proofs.HexCount.{data_half, dropped_half, read_wrong}
use Rattle.frame_fields.specs.declared.rows.Row.{Row}
use Rattle.frame_fields.specs.declared.rows.Stopped.{Stopped}
use Rattle.frame_words.specs.declared.called.Called.{Called}

-- ---- the end
module _ (s : List ℕ) (at : ℕ) (k : Kind) (vs : List ℕ) where
  pub end_more : (xs : List ℕ) → at < length s → at_end s at k vs xs ≡ complain (chars "more behind the last field" ∷ [])
  unfolding at_end
  end_more xs h = rw (lt-ltb _ _ h)

  pub end_here : (xs : List ℕ) → length s ≤ at → at_end s at k vs xs ≡ build k vs xs
  unfolding at_end
  end_here xs h = rw (le-ltb _ _ h)

  pub with_data_lem : (o : Option (List ℕ)) → data_at s at ≡ o → with_data s at k vs ≡ by_data o s at k vs
  unfolding with_data
  with_data_lem o e = rw e

-- ---- a body
module _ (s : List ℕ) (at : ℕ) where
  pub body_missing : length s ≤ at → by_body s at ≡ complain (chars "body wants pairs of hex digits" ∷ [])
  unfolding by_body
  body_missing h = rw (le-ltb _ _ h)

  pub body_by : at < length s → (o : Option (List ℕ)) → hex_pairs (drop (at + 1) s) ≡ o → by_body s at ≡ by_bytes o
  unfolding by_body
  body_by h o e = rw (lt-ltb _ _ h, e)

-- what is refused of the line's digits is not pairs of digits: 600 bytes are room for all
module _ (s : List ℕ) (h : length s ≤ 1200) (at : ℕ) (r : Result ℕ HexFault) (x : HexFault) (q : r ≡ Err x) where
  pub data_wrong : (k : Kind) (vs : List ℕ) → r ≡ hex_of 600 (data_at s at)
      → with_data s at k vs ≡ complain (chars "data= wants pairs of hex digits" ∷ [])
  data_wrong k vs e = with_data_lem s at k vs None (read_wrong (length s) (data_at s at) r h (data_half s at) e x q)

  pub body_wrong : at < length s → r ≡ hex_of 600 (hex_pairs (drop (at + 1) s))
      → by_body s at ≡ complain (chars "body wants pairs of hex digits" ∷ [])
  body_wrong i e = body_by s at i None (read_wrong (length s) (hex_pairs (drop (at + 1) s)) r h (dropped_half (at + 1) s) e x q)

-- ---- the fields
module _ (s : List ℕ) (at : ℕ) (k : Kind) (r : Result Row Stopped) (e : shown_row r ≡ read_fields (fields_of k) s at 0 (replicate 8 0)) where
  pub kind_wants : (x : Stopped) → r ≡ Err x → by_kind s at k ≡ complain (wants x.field.0.now x.field.1)
  unfolding by_kind
  kind_wants x q = ap (by_row s k) (sym e ∙ ap shown_row q)

  module _ (row : Row) (q : r ≡ Ok row) where
    pub kind_data : has_data k ≡ true → by_kind s at k ≡ with_data s row.at k row.values
    unfolding by_kind
    kind_data d = ap (by_row s k) (sym e ∙ ap shown_row q) ∙ rw d

    pub kind_plain : has_data k ≡ false → by_kind s at k ≡ at_end s row.at k row.values []
    unfolding by_kind
    kind_plain d = ap (by_row s k) (sym e ∙ ap shown_row q) ∙ rw d

-- ---- the first word
pub asked_by : (s : List ℕ) (c : Option Called) → called (word_at s 0) ≡ c → outcome_of s ≡ by_word c s (word_end s 0)
unfolding outcome_of
asked_by s c e = rw e

-- What a word is called: a turn of the loop over the kinds, and `body` behind them. Assumes nothing.
use mathlib.Core.Path.{◌≡◌, sym, ap, ◌∙◌}
use mathlib.Core.List.{List}
use Rattle.std.specs.Prelude.{Some, None}
use Prim.Native.Nat.{ℕ, ◌+◌, ◌≤◌, ◌<◌}
use native.Mathlib.Numerals.{add-one}
use lib.ListN.{length, drop, get_or, drop_of_length-le}
use lib.Seq.{drop-cons}
use Rattle.base.specs.Choice.{choose}
use Rattle.frame_words.specs.Chars.{chars}
use Rattle.frame_words.specs.Words.{same}
use Rattle.frame_words.specs.Table.{kinds, kind_word}
use Rattle.frame_words.specs.Called.{first_of, called}
use Rattle.frame_words.specs.declared.table.Kind.{Kind}
use Rattle.frame_words.specs.declared.called.Called.TheVariants.{Named, Body}
use Rattle.frame_words.proofs.WordLaws.{same_is, same_not}

pub first_all : (w : List ℕ) (ks : List Kind) → ks ≡ kinds → first_of w (drop 0 ks) ≡ called w
unfolding called
first_all w ks e = ap (first_of w) e

module _ (w : List ℕ) (ks : List Kind) (i : ℕ) where
  turn : (d : Kind) → i < length ks → first_of w (drop i ks) ≡ choose (same w (kind_word (get_or ks i d))) (Some (Named (get_or ks i d))) (first_of w (drop (i + 1) ks))
  turn d h = rw (drop-cons ks i d h, add-one)

  pub first_here : (d : Kind) → i < length ks → w ≡ kind_word (get_or ks i d) → Some (Named (get_or ks i d)) ≡ first_of w (drop i ks)
  first_here d h e = sym (turn d h ∙ rw (← same_is w (kind_word (get_or ks i d)) e))

  pub first_next : (d : Kind) → i < length ks → (w ≡ kind_word (get_or ks i d) → ⊥) → first_of w (drop (i + 1) ks) ≡ first_of w (drop i ks)
  first_next d h n = sym (turn d h ∙ rw (← same_not w (kind_word (get_or ks i d)) n))

  pub first_body : length ks ≤ i → w ≡ chars "body" → Some Body ≡ first_of w (drop i ks)
  first_body h e = rw (drop_of_length-le ks h, ← same_is w (chars "body") e)

  pub first_none : length ks ≤ i → (w ≡ chars "body" → ⊥) → None ≡ first_of w (drop i ks)
  first_none h n = rw (drop_of_length-le ks h, ← same_not w (chars "body") n)

-- Bytes that were read from hex digits: half as many as the characters. Assumes nothing.
use Rattle.std.specs.Prelude.{None, Option, Some, Result, Ok, Err}
use Rattle.std.specs.Result.{is_ok, MatchResult}
use mathlib.Core.Path.{◌≡◌, refl, sym, ap, ◌∙◌}
use mathlib.Core.Bool.{Bool, true, false}
use mathlib.Core.List.{List}
use Prim.Native.Nat.{ℕ, ◌+◌, ◌*◌, ◌≤◌, ◌<◌}
use native.Mathlib.Omega.{arith}
use borrow.Author.Tests.{ltb-true}
use lib.Dec.{ltb}
use lib.ListN.{length, drop, length-drop}
use Rattle.base.specs.Choice.{choose}
use Rattle.base.proofs.Choosing.{absurdly, by_test}
use Rattle.text.specs.Hex.{hex_pairs, hex_of}
use Rattle.text.specs.declared.hex.HexFault.{HexFault}
use Rattle.text.proofs.HexRead.{none_read}
use Rattle.text.proofs.HexLaws.{pairs_length}
use Rattle.frame_words.specs.Chars.{chars}
use Rattle.frame_words.specs.Words.{word_at, starts}
use Rattle.frame_fields.specs.Rows.{data_word, data_at}
use Rattle.frame_words.proofs.WordLaws.{word_shorter}

-- two characters for each byte, at most n
abbrev pub Half : ℕ → Option (List ℕ) → Type 0
Half n None = Unit
Half n (Some bs) = length bs * 2 ≤ n

pub pairs_half : (s : List ℕ) → Half (length s) (hex_pairs s)
pairs_half s = by (hex_pairs s) refl
  where
    by : (o : Option (List ℕ)) → hex_pairs s ≡ o → Half (length s) o
    by None e = tt
    by (Some bs) e = omega (arith, pairs_length s bs e)

half_more : (m n : ℕ) (o : Option (List ℕ)) → m ≤ n → Half m o → Half n o
half_more m n None h k = tt
half_more m n (Some bs) h k = omega arith

pub dropped_half : (i : ℕ) (s : List ℕ) → Half (length s) (hex_pairs (drop i s))
dropped_half i s = half_more (length (drop i s)) (length s) (hex_pairs (drop i s)) (omega (arith, length-drop i s)) (pairs_half (drop i s))

pub data_half : (s : List ℕ) (at : ℕ) → Half (length s) (data_at s at)
unfolding data_at data_word
data_half s at =
    let w : List ℕ = word_at s (at + 1) in
    by_test (Half (length s)) (ltb at (length s))
    (λ e. by_test (Half (length s)) (starts w (chars "data="))
    (λ f. half_more (length w) (length s) (hex_pairs (drop 5 w)) (word_shorter s (at + 1)) (dropped_half 5 w))
    (λ f. tt))
    (λ e. tt)

-- so 600 bytes are room for 1,200 characters
pub half_room : (n : ℕ) (o : Option (List ℕ)) → n ≤ 1200 → Half n o → (bs : List ℕ) → o ≡ Some bs → length bs ≤ 600
half_room n None h k bs e = absurdly (cc)
half_room n (Some cs) h k bs e =
    let q : cs ≡ bs = cc in
    omega (arith, ap length q)

-- ---- a reading, by what is handed on of it
pub read_kept : (W : Type 0) (r : Result ℕ HexFault) (n : ℕ) (Q : HexFault → Type 0) → MatchResult r (λ x. ◌≡◌ {A = Result ℕ W} (Ok n) (Ok x)) Q → true ≡ is_ok r → Ok n ≡ r
read_kept W (Ok x) n Q p v = let q : n ≡ x = cc in ap Ok q
read_kept W (Err e) n Q p v = absurdly (cc)

pub read_wrong : (n : ℕ) (o : Option (List ℕ)) (r : Result ℕ HexFault) → n ≤ 1200 → Half n o → r ≡ hex_of 600 o → (x : HexFault) → r ≡ Err x → o ≡ None
read_wrong n o r h k e x q = none_read 600 o x (half_room n o h k) (sym q ∙ e)

-- data are read only after a space
pub data_inside : (s : List ℕ) (at : ℕ) (xs : List ℕ) → data_at s at ≡ Some xs → at < length s
unfolding data_at
data_inside s at xs e = by (ltb at (length s)) refl e
  where
    by : (t : Bool) → ltb at (length s) ≡ t → choose t (data_word (word_at s (at + 1))) None ≡ Some xs → at < length s
    by true p e = ltb-true at (length s) p
    by false p e = absurdly (cc)

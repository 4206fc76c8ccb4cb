-- Laws of the fields of a line: the cases of a word, and a turn of the loop over fields. Assumes nothing.
use mathlib.Core.Path.{◌≡◌, refl, sym, ap, ◌∙◌}
use mathlib.Core.Bool.{Bool, true, false}
use mathlib.Core.List.{List, [], ◌∷◌, ◌++◌}
use Rattle.std.specs.Prelude.{Option, Some, None, Result, Ok, Err}
use Rattle.std.specs.Result.{result_ok}
use Prim.Native.Nat.{ℕ, suc, ◌+◌, ◌-◌, ◌*◌, ◌≤◌, ◌<◌}
use native.Mathlib.Omega.{arith}
use native.Mathlib.Numerals.{add-one}
use borrow.Author.Tests.{lt-ltb, le-ltb, ltb-false, eq-eqb, ne_eqb}
use denote.Bor.{Bor}
use lib.Dec.{eqb, ltb}
use lib.ListN.{length, take, drop, get_or, set, drop_of_length-le}
use lib.Pointwise.{pointwise}
use lib.Seq.{drop-cons}
use Rattle.base.specs.Choice.{choose}
use Rattle.base.specs.Bytes.{number_at}
use Rattle.base.proofs.Choosing.{absurdly}
use Rattle.base.proofs.Numbers.{number_before}
use Rattle.fields.specs.Fields.{width8}
use Rattle.text.specs.Hex.{hex_pairs, hex_of, hex_left}
use Rattle.text.specs.declared.hex.HexFault.{HexFault}
use Rattle.text.specs.declared.hex.HexFault.TheVariants.{NoRoom}
use Rattle.frame_words.specs.Chars.{chars}
use Rattle.frame_words.specs.Words.{word_end}
use Rattle.frame_words.specs.Table.{Field, fields_in, fields_of}
use Rattle.frame_words.specs.declared.table.Kind.{Kind}
use Rattle.frame_words.specs.declared.table.Kind.TheVariants.{Sync, Read, Write, PlainRead, PlainWrite, Response, PlainSyncResponse, PlainResponse, Tid, Sid, Sid4, Ack, Invariants}
use Rattle.frame_fields.specs.Rows.{value_in, field_value, with_end, field_at, read_fields, data_word, data_at}
use Rattle.frame_words.proofs.WordLaws.{word_part, prefix_is}

-- ---- the number of n bytes
eight : (n : ℕ) → n ≤ 8 → width8 n ≡ n
eight n h = by (ltb n 8) refl
  where
    by : (t : Bool) → ltb n 8 ≡ t → choose t n 8 ≡ n
    by true e = refl
    by false e = omega (arith, ltb-false n 8 e)

-- what is kept of a reading
pub ok_kept : (r : Result ℕ HexFault) (n : ℕ) → Some n ≡ result_ok r → Ok n ≡ r
ok_kept (Ok m) n e = cc
ok_kept (Err x) n e = absurdly (cc)

module _ (digits : ℕ) where
  pub value_err : (e : HexFault) (o : Option (List ℕ)) → Err e ≡ hex_of 8 o → None ≡ value_in digits o
  value_err e None h = refl
  value_err e (Some bs) h = by (ltb 8 (length bs)) h
    where
      by : (t : Bool) → Err e ≡ choose t (Err NoRoom) (Ok (length bs))
          → None ≡ choose t None (choose (eqb (length bs * 2) digits) (Some (number_at bs 0 (length bs))) None)
      by true h = refl
      by false h = absurdly (cc)

  -- bytes that were read: they stand at the start of the buffer
  module _ (o : Option (List ℕ)) (buf out : List ℕ) (n : ℕ) (l : length buf ≡ 8) (e : Ok n ≡ hex_of 8 o) (p : out ≡ hex_left o buf) where
    value_bytes : value_in digits o ≡ choose (eqb (n * 2) digits) (Some (number_at out 0 n)) None
    value_bytes = by_bytes o e (p ∙ refl)
      where
        by_bytes : (o : Option (List ℕ)) → Ok n ≡ hex_of 8 o → out ≡ hex_left o buf → value_in digits o ≡ choose (eqb (n * 2) digits) (Some (number_at out 0 n)) None
        by_bytes None e p = absurdly (cc)
        by_bytes (Some bs) e p = by (ltb 8 (length bs)) e (p ∙ rw l)
          where
            by : (t : Bool) → Ok n ≡ choose t (Err NoRoom) (Ok (length bs)) → out ≡ choose t buf (bs ++ drop (length bs) buf)
                → choose t None (choose (eqb (length bs * 2) digits) (Some (number_at bs 0 (length bs))) None) ≡ choose (eqb (n * 2) digits) (Some (number_at out 0 n)) None
            by true e p = absurdly (cc)
            by false e p =
                let q : n ≡ length bs = cc in
                rw (p, q, number_before bs (drop (length bs) buf) 0 (length bs) (omega arith))

    pub value_other : (n * 2 ≡ digits → ⊥) → None ≡ value_in digits o
    value_other d = sym (value_bytes ∙ rw (ne_eqb _ _ d))

    pub value_right : n * 2 ≡ digits → n ≤ 8 → (v : ℕ) → v ≡ number_at out 0 (width8 n) → Some v ≡ value_in digits o
    value_right d h v q = sym (value_bytes ∙ rw (eq-eqb _ _ d, q, eight n h))

-- ---- a word
module _ (f : Field) (word : List ℕ) where
  pub field_other : pointwise eqb (take (length f.0) word) f.0 ≡ false → None ≡ field_value f word
  unfolding field_value
  field_other e = rw (sym (prefix_is word f.0) ∙ e)

  pub field_named : pointwise eqb (take (length f.0) word) f.0 ≡ true → value_in f.1 (hex_pairs (drop (length f.0) word)) ≡ field_value f word
  unfolding field_value
  field_named e = rw (sym (prefix_is word f.0) ∙ e)

module _ (s : List ℕ) (at : ℕ) where
  module _ (f : Field) where
    pub field_missing : length s ≤ at → None ≡ field_at s at f
    unfolding field_at
    field_missing h = rw (le-ltb _ _ h)

    module _ (e : ℕ) (h : at < length s) (p : e ≡ word_end s (at + 1)) (o : Option ℕ) (q : o ≡ field_value f (take (e - (at + 1)) (drop (at + 1) s))) where
      there : with_end e o ≡ field_at s at f
      unfolding field_at
      there = rw (lt-ltb _ _ h, q, p, word_part s (at + 1))

      pub field_wrong : o ≡ None → None ≡ field_at s at f
      field_wrong z = ap (with_end e) (sym z) ∙ there

      pub field_there : (v : ℕ) → o ≡ Some v → Some (v, e) ≡ field_at s at f
      field_there v z = ap (with_end e) (sym z) ∙ there

  pub data_missing : length s ≤ at → data_at s at ≡ None
  unfolding data_at
  data_missing h = rw (le-ltb _ _ h)

  pub data_there : (e : ℕ) → at < length s → e ≡ word_end s (at + 1) → data_word (take (e - (at + 1)) (drop (at + 1) s)) ≡ data_at s at
  unfolding data_at
  data_there e h p = rw (lt-ltb _ _ h, p, word_part s (at + 1))

pub data_other : (word : List ℕ) → pointwise eqb (take 5 word) (chars "data=") ≡ false → data_word word ≡ None
unfolding data_word
data_other word e = rw (sym (prefix_is word (chars "data=")) ∙ e)

pub data_named : (word : List ℕ) → pointwise eqb (take 5 word) (chars "data=") ≡ true → data_word word ≡ hex_pairs (drop 5 word)
unfolding data_word
data_named word e = rw (sym (prefix_is word (chars "data=")) ∙ e)

-- ---- the fields from the i-th on
module _ (fs : List (Bor (List ℕ) × ℕ)) (i : ℕ) (s : List ℕ) (to : ℕ) (vs : List ℕ) where
  pub row_end : length fs ≤ i → read_fields (fields_in (drop i fs)) s to i vs ≡ Ok (vs, to)
  unfolding read_fields
  row_end h = rw (drop_of_length-le fs h)

  module _ (d : Bor (List ℕ) × ℕ) (h : i < length fs) where
    pub row_wrong : field_at s to ((get_or fs i d).0.now, (get_or fs i d).1) ≡ None
        → read_fields (fields_in (drop i fs)) s to i vs ≡ Err ((vs, to), ((get_or fs i d).0.now, (get_or fs i d).1))
    unfolding read_fields
    row_wrong e = rw (drop-cons fs i d h, e)

    pub row_number : (v next : ℕ) → field_at s to ((get_or fs i d).0.now, (get_or fs i d).1) ≡ Some (v, next)
        → read_fields (fields_in (drop i fs)) s to i vs ≡ read_fields (fields_in (drop (i + 1) fs)) s next (i + 1) (set vs i v)
    unfolding read_fields
    row_number v next e = rw (drop-cons fs i d h, add-one, e)

-- a kind has at most eight
in_length : (fs : List (Bor (List ℕ) × ℕ)) → length (fields_in fs) ≡ length fs
in_length [] = refl
in_length (f ∷ fs) = ap suc (in_length fs)

few : (k : Kind) → length (fields_of k) ≤ 8
few Sync = omega arith
few Read = omega arith
few Write = omega arith
few PlainRead = omega arith
few PlainWrite = omega arith
few Response = omega arith
few PlainSyncResponse = omega arith
few PlainResponse = omega arith
few Tid = omega arith
few Sid = omega arith
few Sid4 = omega arith
few Ack = omega arith
few Invariants = omega arith

pub fields_most : (k : Kind) (fs : List (Bor (List ℕ) × ℕ)) → fields_in fs ≡ fields_of k → length fs ≤ 8
fields_most k fs e = omega (arith, in_length fs, ap length e, few k)

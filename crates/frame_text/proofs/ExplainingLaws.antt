-- Laws of a frame that is explained: a turn of the loop over fields, with data and without; and flags. Assumes nothing.
use mathlib.Core.Path.{◌≡◌, sym, ap, ◌∙◌}
use mathlib.Core.Bool.{true, false}
use mathlib.Core.List.{List, [], ◌∷◌}
use Prim.Native.Nat.{ℕ, ◌+◌, ◌-◌, ◌≤◌, ◌<◌}
use native.Mathlib.Omega.{arith}
use native.Mathlib.Numerals.{add-one}
use borrow.Author.Tests.{lt-ltb, le-ltb, ltb-true, eq-eqb, ne_eqb}
use denote.Bor.{Bor}
use Rattle.std.proofs.Math.Bool.{and-false}
use lib.ListN.{length, take, drop, get_or, drop_of_length-le}
use lib.Seq.{sets, take_at, drop-cons}
use Rattle.base.specs.Bytes.{bytes_of}
use Rattle.base.proofs.Choosing.{and_left}
use Rattle.base.proofs.Numbers.{length_bytes_of}
use Rattle.base.proofs.Sets.{sets_front}
use Rattle.text.specs.Putting.{hex_text}
use Rattle.frame_kinds.specs.Kinds.{data_len, data_in}
use Rattle.frame_kinds.specs.Sized.{Sized}
use Rattle.frame_kinds.specs.declared.kinds.Frame.{Frame}
use Rattle.frame_kinds.specs.declared.kinds.Frame.TheVariants.{Sync, SafeRead, SafeWrite, PlainRead, PlainWrite, SafeResponse, PlainSyncResponse, PlainResponse, TidAssignment, SidAssignment, SidAssignment4, Acknowledgement, Invariants}
use Rattle.frame_words.specs.Chars.{chars}
use Rattle.frame_words.specs.Table.{fields_in, fields_of, has_data, kind_word}
use Rattle.frame_words.specs.Texts.{Text, put, puts}
use Rattle.frame_fields.specs.Numbers.{kind_of, numbers_of}
use Rattle.frame_text.specs.Explained.{put_field, put_fields, frame_text, read_text, is_flagged, explained_text}

-- the w bytes of a number, stored at the start
pub stored_bytes : (buf : List ℕ) (w n : ℕ) → w ≤ length buf → take w (sets buf 0 (bytes_of w n)) ≡ bytes_of w n
stored_bytes buf w n h =
    let l : length (bytes_of w n) ≡ w = length_bytes_of w n in
    ap (take w) (sets_front buf (bytes_of w n) (omega arith)) ∙ take_at (bytes_of w n) (drop (length (bytes_of w n)) buf) w l

module _ (fs : List (Bor (List ℕ) × ℕ)) (i : ℕ) (vs : List ℕ) (t : List ℕ) where
  pub put_turn : (d : Bor (List ℕ) × ℕ) → i < length fs
      → put_fields (fields_in (drop i fs)) vs i t ≡ put_fields (fields_in (drop (i + 1) fs)) vs (i + 1) (put_field t ((get_or fs i d).0.now, (get_or fs i d).1) (get_or vs i 0))
  unfolding put_fields
  put_turn d h =
      let u : List ℕ = put_field t ((get_or fs i d).0.now, (get_or fs i d).1) (get_or vs i 0) in
      rw (drop-cons fs i d h) (ap (λ (n : ℕ). put_fields (fields_in (drop n fs)) vs (i + 1) u) (sym (add-one i)))

  pub put_end : length fs ≤ i → put_fields (fields_in (drop i fs)) vs i t ≡ t
  unfolding put_fields
  put_end h = rw (drop_of_length-le fs h)

module _ (t : Text) (a : ℕ) (f : Frame) (bytes : List ℕ) where
  abbrev pub without_data : Text
  without_data = put_fields (fields_of (kind_of f)) (numbers_of a f) 0 (put t (kind_word (kind_of f)))

  pub frame_data : has_data (kind_of f) ≡ true → puts without_data (chars " data=" ∷ hex_text (data_in f bytes) ∷ []) ≡ frame_text t a f bytes
  unfolding frame_text
  frame_data e = rw e

  pub frame_plain : has_data (kind_of f) ≡ false → without_data ≡ frame_text t a f bytes
  unfolding frame_text
  frame_plain e = rw e

-- ---- flags
module _ (bs : List ℕ) where
  pub flagged_short : length bs < 2 → false ≡ is_flagged bs
  unfolding is_flagged
  flagged_short h = rw (le-ltb 1 (length bs) (omega arith))

  pub flagged_is : 2 ≤ length bs → get_or bs 0 0 ≡ 0x7E → get_or bs (length bs - 1) 0 ≡ 0x7E → true ≡ is_flagged bs
  unfolding is_flagged
  flagged_is h d e = rw (lt-ltb 1 (length bs) (omega arith), eq-eqb _ _ d, eq-eqb _ _ e)

  pub flagged_not : (get_or bs 0 0 ≡ 0x7E → ⊥) → false ≡ is_flagged bs
  unfolding is_flagged
  flagged_not n = rw (ne_eqb _ _ n, and-false)

  pub flagged_open : (get_or bs (length bs - 1) 0 ≡ 0x7E → ⊥) → false ≡ is_flagged bs
  unfolding is_flagged
  flagged_open n = rw (ne_eqb _ _ n, and-false, and-false)

  pub flagged_long : is_flagged bs ≡ true → 2 ≤ length bs
  unfolding is_flagged
  flagged_long e = omega (arith, ltb-true 1 (length bs) (and_left _ _ e))

  module _ (t : Text) where
    pub flags_off : is_flagged bs ≡ true → read_text t (take (length bs - 2) (drop 1 bs)) ≡ explained_text t bs
    unfolding explained_text
    flags_off e = rw e

    pub no_flags : is_flagged bs ≡ false → read_text t bs ≡ explained_text t bs
    unfolding explained_text
    no_flags e = rw e

-- a frame that the code holds has at most 255 data bytes
pub data_most : (f : Frame) → Sized f → data_len f ≤ 255
data_most (Sync src cyc) h = omega arith
data_most (SafeRead dest src cyc seq datl add) h = omega arith
data_most (SafeWrite dest src cyc seq datl add) h = omega arith
data_most (PlainRead src datl add) h = omega arith
data_most (PlainWrite src datl add) h = omega arith
data_most (SafeResponse dest src cyc seq «com» datl add stat) h = omega arith
data_most (PlainSyncResponse src datl add stat) h = omega arith
data_most (PlainResponse src «com» datl add) h = omega arith
data_most (TidAssignment src iid tid) h = omega arith
data_most (SidAssignment src sec mac sid) h = omega arith
data_most (SidAssignment4 src sec mac sid sid2 src2) h = omega arith
data_most (Acknowledgement src dst sec mac) h = omega arith
data_most (Invariants dest src cyc seq config logic) h = omega arith

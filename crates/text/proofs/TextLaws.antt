-- What a piece adds to a text that is kept in a buffer of some room. Assumes nothing.
use mathlib.Core.Path.{◌≡◌, refl, sym, ap, ap₂, ◌∙◌}
use mathlib.Core.Bool.{Bool, true, false}
use mathlib.Core.List.{List, [], ◌++◌}
use Prim.Native.Nat.{ℕ, ◌+◌, ◌-◌, ◌≤◌, ◌<◌}
use native.Mathlib.Omega.{arith}
use borrow.Author.Tests.{le-leb, lt-leb, leb-true, leb-false}
use lib.Dec.{leb}
use lib.ListN.{length, take, drop, replicate, length-append, length-take}
use lib.Seq.{length-sets, length-take-le, take_at, drop_at, drop-drop}
use Rattle.std.proofs.lemmas.List.{take_all, drop-replicate}
use Rattle.std.proofs.lemmas.List.Edits.{sets-eq}
use Rattle.text.specs.Decimal.{decimal_text}
use Rattle.text.specs.Putting.{put_at, place_after, Wrote}
use Rattle.text.specs.Texts.{with_piece}
use Rattle.text.proofs.DecimalLaws.{decimal_length}
use Rattle.text.proofs.PuttingLaws.{Put, put_whole, same_put}

-- ---- whole, or not at all
pub piece_fits : (room : ℕ) (text piece : List ℕ) → length text + length piece ≤ room → text ++ piece ≡ with_piece room text piece
unfolding with_piece
piece_fits room text piece h = rw (le-leb (length text + length piece) room h)

pub piece_not : (room : ℕ) (text piece : List ℕ) → room < length text + length piece → text ≡ with_piece room text piece
unfolding with_piece
piece_not room text piece h = rw (lt-leb (length text + length piece) room h)

-- a number in decimal, where there is room for the longest
pub number_put : (room : ℕ) (text : List ℕ) (n : ℕ) (new : List ℕ) → length text + 20 ≤ room → new ≡ with_piece room text (decimal_text n)
    → (new ≡ text ++ decimal_text n) × (length new ≤ length text + 20)
number_put room text n new h e =
    let k = decimal_length n in
    let t : new ≡ text ++ decimal_text n = e ∙ sym (piece_fits room text (decimal_text n) (omega arith)) in
    (t, omega (arith, ap length t, length-append text (decimal_text n)))

-- characters that fit
pub filled : (room : ℕ) (text chars new : List ℕ) → length text + length chars ≤ room → new ≡ take room (text ++ chars)
    → (new ≡ text ++ chars) × (length new ≡ length text + length chars)
filled room text chars new h e =
    let t : new ≡ text ++ chars = e ∙ take_all room (text ++ chars) (omega (arith, length-append text chars)) in
    (t, ap length t ∙ length-append text chars)

-- a piece that fits, put together behind a text that was empty, and then at an index of a lent buffer
pub piece_lent : (room : ℕ) (buf : List ℕ) (at : ℕ) (piece none text chars : List ℕ) (r : ℕ) (out : List ℕ) → length piece ≤ room
    → none ≡ [] → text ≡ with_piece room none piece → chars ≡ text → Put buf at chars r out → Put buf at piece r out
piece_lent room buf at piece none text chars r out h e p q =
    same_put buf at chars piece r out (q ∙ p ∙ ap (λ (t : List ℕ). with_piece room t piece) e ∙ sym (piece_fits room [] piece (omega arith)))

-- ---- the bytes behind a text are zero
abbrev pub Kept : ℕ → List ℕ → ℕ → Type 0
Kept room buf len = (len ≤ room) × (length buf ≡ room) × (drop len buf ≡ replicate (room - len) 0)

-- they are so behind a longer text, where they were left
pub zeros_behind : (room len r : ℕ) (buf out : List ℕ) → len ≤ r → drop len buf ≡ replicate (room - len) 0 → drop r out ≡ drop r buf
    → drop r out ≡ replicate (room - r) 0
zeros_behind room len r buf out h z e =
    let a : len + (r - len) ≡ r = omega (arith, h) in
    let b : (room - len) - (r - len) ≡ room - r = omega (arith, h) in
    let d : drop (r - len) (drop len buf) ≡ drop r buf = drop-drop (r - len) len buf ∙ ap (λ (n : ℕ). drop n buf) a in
    let k : drop (r - len) (drop len buf) ≡ replicate ((room - len) - (r - len)) 0 = ap (drop (r - len)) z ∙ drop-replicate (r - len) (room - len) 0 in
    e ∙ sym d ∙ k ∙ ap (λ (n : ℕ). replicate n 0) b

-- and behind characters that were added as far as there is room
pub kept_filled : (room : ℕ) (buf : List ℕ) (len : ℕ) (chars : List ℕ) (r : ℕ) (out : List ℕ) → Kept room buf len → length out ≡ length buf
    → r ≤ length buf → take r out ≡ take (length buf) (take len buf ++ chars) → drop r out ≡ drop r buf → Kept room out r
kept_filled room buf len chars r out v l k p q =
    let front : length (take len buf) ≡ len = length-take-le len buf (omega (arith, v)) in
    let n : r ≡ length (take (length buf) (take len buf ++ chars)) = sym (length-take-le r out (omega (arith, l, k))) ∙ ap length p in
    let m : len ≤ r = omega (arith, n, length-take (length buf) (take len buf ++ chars), length-append (take len buf) chars, front, v) in
    (omega (arith, k, v), l ∙ v.1, zeros_behind room len r buf out m v.2 q)

-- ---- a piece put at the end of the text in a buffer
module _ (room : ℕ) (buf : List ℕ) (len : ℕ) (s : List ℕ) (r : ℕ) (out : List ℕ) (e : length buf ≡ room) (h : len ≤ room) where
  front : length (take len buf) ≡ len
  front = length-take-le len buf (omega arith)

  whole : Wrote buf len s r out → len + length s ≤ room → take r out ≡ take len buf ++ s
  whole w k =
      let d : List ℕ = drop (len + length s) buf in
      let p : out ≡ (take len buf ++ s) ++ d = w.1 ∙ sets-eq s buf len (omega arith) in
      ap (take r) p ∙ take_at (take len buf ++ s) d r (omega (arith, w.0, front, length-append (take len buf) s))

  pub piece_put : Put buf len s r out → take r out ≡ with_piece room (take len buf) s
  unfolding put_at place_after
  piece_put = by (leb (len + length s) (length buf)) refl
    where
      by : (t : Bool) → leb (len + length s) (length buf) ≡ t → Put buf len s r out → take r out ≡ with_piece room (take len buf) s
      by true t q =
          let k : len + length s ≤ length buf = leb-true _ _ t in
          whole (put_whole buf len s k r out q) (omega arith) ∙ piece_fits room (take len buf) s (omega (arith, front))
      by false t q =
          let k : length buf < len + length s = leb-false _ _ t in
          let p : r ≡ len = rw t at q.0 in
          let o : out ≡ buf = rw t at q.1 in
          ap₂ take p o ∙ piece_not room (take len buf) s (omega (arith, front))

  pub room_kept : Put buf len s r out → (r ≤ room) × (length out ≡ room)
  unfolding put_at place_after
  room_kept = by (leb (len + length s) (length buf)) refl
    where
      by : (t : Bool) → leb (len + length s) (length buf) ≡ t → Put buf len s r out → (r ≤ room) × (length out ≡ room)
      by true t q =
          let k : len + length s ≤ length buf = leb-true _ _ t in
          let w = put_whole buf len s k r out q in
          (omega (arith, w.0), ap length w.1 ∙ length-sets buf len s ∙ e)
      by false t q =
          let p : r ≡ len = rw t at q.0 in
          let o : out ≡ buf = rw t at q.1 in
          (omega arith, ap length o ∙ e)

  -- and the zeros behind it stay
  pub zeros_kept : drop len buf ≡ replicate (room - len) 0 → Put buf len s r out → drop r out ≡ replicate (room - r) 0
  unfolding put_at place_after
  zeros_kept z = by (leb (len + length s) (length buf)) refl
    where
      by : (t : Bool) → leb (len + length s) (length buf) ≡ t → Put buf len s r out → drop r out ≡ replicate (room - r) 0
      by true t q =
          let k : len + length s ≤ length buf = leb-true _ _ t in
          let w = put_whole buf len s k r out q in
          let l : length (take len buf ++ s) ≡ r = omega (arith, w.0, front, length-append (take len buf) s) in
          let p : out ≡ (take len buf ++ s) ++ drop r buf =
          w.1 ∙ sets-eq s buf len (omega arith) ∙ ap (λ (n : ℕ). (take len buf ++ s) ++ drop n buf) (sym w.0)
          in
          zeros_behind room len r buf out (omega (arith, w.0)) z (ap (drop r) p ∙ drop_at (take len buf ++ s) (drop r buf) r l)
      by false t q =
          let p : r ≡ len = rw t at q.0 in
          let o : out ≡ buf = rw t at q.1 in
          zeros_behind room len r buf out (omega (arith, p)) z (ap (drop r) o)

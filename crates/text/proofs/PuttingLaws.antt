-- Laws of text put at an index: what fits and what does not, one text after another, and a turn of the loop over bytes. Assumes
-- nothing.
use mathlib.Core.Path.{◌≡◌, refl, sym, ap, ap₂, ◌∙◌}
use mathlib.Core.Bool.{Bool, true, false}
use mathlib.Core.List.{List, [], ◌∷◌, ◌++◌}
use Prim.Native.Nat.{ℕ, ◌+◌, ◌-◌, ◌*◌, ◌≤◌, ◌<◌}
use native.Mathlib.Omega.{arith}
use native.Mathlib.Numerals.{add-one}
use borrow.Author.Tests.{leb-true, leb-false, le-leb, lt-leb}
use lib.Dec.{leb}
use lib.ListN.{length, take, drop, get_or, length-append, drop_of_length-le}
use lib.Seq.{sets, drop-cons, length-sets, take_at}
use Rattle.base.proofs.Choosing.{by_test}
use Rattle.base.proofs.Sets.{sets_append, sets_front}
use Rattle.text.specs.Putting.{hex_digits, hex_text, put_at, place_after, Wrote}

-- the room behind a place
pub room_behind : (len at n : ℕ) → at ≤ len → leb n (len - at) ≡ leb (at + n) len
room_behind len at n h = by (leb n (len - at)) refl
  where
    by : (t : Bool) → leb n (len - at) ≡ t → leb n (len - at) ≡ leb (at + n) len
    by true e =
        let k : n ≤ len - at = leb-true _ _ e in
        e ∙ sym (le-leb (at + n) len (omega arith))
    by false e =
        let k : len - at < n = leb-false _ _ e in
        e ∙ sym (lt-leb (at + n) len (omega arith))

-- what a piece leaves, where it fits and where it does not
module _ (buf : List ℕ) (at : ℕ) (text : List ℕ) where
  abbrev pub Put : ℕ → List ℕ → Type 0
  Put r out = (r ≡ place_after (length buf) at text) × (out ≡ put_at buf at text)

  pub put_fits : (r : ℕ) (out : List ℕ) → leb (at + length text) (length buf) ≡ true → r ≡ at + length text → out ≡ sets buf at text → Put r out
  unfolding put_at place_after
  put_fits r out t p q = (rw t p, rw t q)

  pub put_not : leb (at + length text) (length buf) ≡ false → Put at buf
  unfolding put_at place_after
  put_not t = (rw t, rw t)

  -- a text that is put whole
  pub put_whole : at + length text ≤ length buf → (r : ℕ) (out : List ℕ) → Put r out → Wrote buf at text r out
  unfolding put_at place_after
  put_whole h r out p =
      let t : leb (at + length text) (length buf) ≡ true = le-leb _ _ h in
      (p.0 ∙ rw t, p.1 ∙ rw t)

-- one text behind another
pub wrote_both : (buf : List ℕ) (at : ℕ) (s : List ℕ) (r : ℕ) (out t : List ℕ) (r' : ℕ) (out' : List ℕ)
    → Wrote buf at s r out → Wrote out r t r' out' → Wrote buf at (s ++ t) r' out'
wrote_both buf at s r out t r' out' p q = (
  omega (arith, p.0, q.0, length-append s t),
  q.1 ∙ ap₂ (λ (x : List ℕ) (n : ℕ). sets x n t) p.1 p.0 ∙ sym (sets_append buf at s t),
)

-- one text after another, with the room that is left
module _ (buf : List ℕ) (at : ℕ) (s : List ℕ) (r : ℕ) (out : List ℕ) (w : Wrote buf at s r out) where
  pub wrote_length : length out ≡ length buf
  wrote_length = ap length w.1 ∙ length-sets buf at s

  -- the room that is left
  pub wrote_room : (n : ℕ) → at + (length s + n) ≤ length buf → r + n ≤ length out
  wrote_room n h = omega (arith, w.0, wrote_length, h)

  pub then_put : (t : List ℕ) (r' : ℕ) (out' : List ℕ) → at + (length s + length t) ≤ length buf → Put out r t r' out' → Wrote buf at (s ++ t) r' out'
  then_put t r' out' h p = wrote_both buf at s r out t r' out' w (put_whole out r t (wrote_room (length t) h) r' out' p)

-- nothing put
pub none_put : (buf : List ℕ) (at : ℕ) → Put buf at [] at buf
unfolding put_at place_after
none_put buf at = (
  by_test (λ (n : ℕ). at ≡ n) (leb (at + 0) (length buf)) {x = at + 0} {y = at} (λ e. omega arith) (λ e. refl),
  by_test (λ (l : List ℕ). buf ≡ l) (leb (at + 0) (length buf)) {x = buf} {y = buf} (λ e. refl) (λ e. refl),
)

pub wrote_nothing : (buf : List ℕ) (at : ℕ) → Wrote buf at [] at buf
wrote_nothing buf at = (omega arith, refl)

-- a text put at the front
pub wrote_front : (buf t : List ℕ) (r : ℕ) (out : List ℕ) → length t ≤ length buf → Wrote buf 0 t r out → take r out ≡ t
wrote_front buf t r out h w =
    ap (take r) (w.1 ∙ sets_front buf t h) ∙ take_at t (drop (length t) buf) r (omega (arith, w.0))

-- the same text, written in another way
pub same_put : (buf : List ℕ) (at : ℕ) (s t : List ℕ) (r : ℕ) (out : List ℕ) → s ≡ t → Put buf at s r out → Put buf at t r out
same_put buf at s t r out e p = rw e at p

-- ---- bytes in hex
pub digits_two : (b : ℕ) → length (hex_digits b) ≡ 2
unfolding hex_digits
digits_two b = refl

pub text_length : (bs : List ℕ) → length (hex_text bs) ≡ length bs * 2
unfolding hex_text
text_length [] = refl
text_length (b ∷ bs) = omega (arith, length-append (hex_digits b) (hex_text bs), digits_two b, text_length bs)

text_turn : (s : List ℕ) (i : ℕ) → i < length s → hex_text (drop i s) ≡ hex_digits (get_or s i 0) ++ hex_text (drop (i + 1) s)
unfolding hex_text
text_turn s i h = rw (drop-cons s i 0, add-one)

pub text_end : (s : List ℕ) (i : ℕ) → length s ≤ i → hex_text (drop i s) ≡ []
unfolding hex_text
text_end s i h = rw drop_of_length-le

pub text_place : (s : List ℕ) (i to n : ℕ) → i < length s → to + length (hex_text (drop i s)) ≡ n → to + 2 + length (hex_text (drop (i + 1) s)) ≡ n
text_place s i to n h e =
    omega (arith, e, ap length (text_turn s i h), length-append (hex_digits (get_or s i 0)) (hex_text (drop (i + 1) s)), digits_two (get_or s i 0))

pub text_contents : (s d e : List ℕ) (i to : ℕ) → i < length s → sets d to (hex_text (drop i s)) ≡ e
    → sets (sets d to (hex_digits (get_or s i 0))) (to + 2) (hex_text (drop (i + 1) s)) ≡ e
text_contents s d e i to h p =
    ap (λ (n : ℕ). sets (sets d to (hex_digits (get_or s i 0))) (to + n) (hex_text (drop (i + 1) s))) (sym (digits_two (get_or s i 0)))
    ∙ sym (sets_append d to (hex_digits (get_or s i 0)) (hex_text (drop (i + 1) s))) ∙ ap (sets d to) (sym (text_turn s i h)) ∙ p

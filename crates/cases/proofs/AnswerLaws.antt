-- Laws of an answer: by the operation; and its text, which is BAD or hex digits, with an LF. Assumes nothing.
use mathlib.Core.Bool.{Bool, true, false}
use mathlib.Core.Path.{◌≡◌, refl, sym, ap, ap₂, ◌∙◌}
use mathlib.Core.List.{List, [], ◌∷◌, ◌++◌, append-nil, append_assoc}
use Prim.Native.Nat.{ℕ, ◌+◌, ◌*◌, ◌≤◌, ◌<◌}
use native.Mathlib.Omega.{arith}
use borrow.Author.Tests.{ne_eqb, eqb-true, eqb-false}
use lib.Dec.{eqb}
use lib.ListN.{length, take, drop, length-append}
use lib.Seq.{take_at}
use Rattle.base.specs.Bytes.{bytes_of}
use Rattle.base.proofs.Numbers.{length_bytes_of}
use Rattle.base.proofs.Sets.{sets_front}
use Rattle.text.specs.Putting.{hex_text, Wrote}
use Rattle.text.specs.Texts.{with_piece}
use Rattle.text.proofs.PuttingLaws.{text_length}
use Rattle.text.proofs.TextLaws.{piece_fits}
use Rattle.frame_words.specs.Chars.{chars}
use Rattle.frame_words.specs.Texts.{put, puts}
use Rattle.frame_words.proofs.TextLaws.{joined, pieces_are}
use Rattle.cases.specs.Cases.{by_operation, answer_text, Says}

-- what was written from the start on
pub front : (out s : List ℕ) (r : ℕ) (out' : List ℕ) → length s ≤ length out → Wrote out 0 s r out' → take r out' ≡ s
front out s r out' h w =
    let e : r ≡ length s = omega (arith, w.0) in
    ap₂ take e (w.1 ∙ sets_front out s h) ∙ take_at s (drop (length s) out) (length s) refl

-- whether there are bytes, from the test of a slice
pub no_length : (s t : List ℕ) (b : Bool) → b ≡ eqb (length s) 0 → b ≡ true → s ≡ t → length t ≡ 0
no_length s t b p q e = ap length (sym e) ∙ eqb-true (length s) 0 (sym p ∙ q)

pub some_length : (s : List ℕ) (b : Bool) → b ≡ eqb (length s) 0 → b ≡ false → 0 < length s
some_length s b p q = by (length s) (eqb-false (length s) 0 (sym p ∙ q))
  where
    by : (n : ℕ) → (n ≡ 0 → ⊥) → 0 < n
    by n h = omega arith

-- the text of an answer, put behind what is there
pub put_bad : (room : ℕ) (bs old new : List ℕ) → length bs ≡ 0 → length old + length (answer_text bs) ≤ room → new ≡ with_piece room old (chars "BAD\n") → new ≡ old ++ answer_text bs
unfolding answer_text
put_bad room [] old new e h p = p ∙ sym (piece_fits room old (chars "BAD\n") h)
put_bad room (b ∷ bs) old new e h p = absurd (omega arith)

pub put_hex : (room : ℕ) (bs old t₁ new : List ℕ) → 0 < length bs → length old + length (answer_text bs) ≤ room
    → t₁ ≡ with_piece room old (hex_text bs) → new ≡ with_piece room t₁ (0x0A ∷ []) → new ≡ old ++ answer_text bs
unfolding answer_text
put_hex room [] old t₁ new k h p q = absurd (omega arith)
put_hex room (b ∷ bs) old t₁ new k h p q =
    let xs = hex_text (b ∷ bs) in
    let n : length old + (length xs + 1) ≤ room = omega (arith, h, length-append xs (0x0A ∷ [])) in
    let a : t₁ ≡ old ++ xs = p ∙ sym (piece_fits room old xs (omega arith)) in
    q ∙ ap (λ (s : List ℕ). with_piece room s (0x0A ∷ [])) a
    ∙ sym (piece_fits room (old ++ xs) (0x0A ∷ []) (omega (arith, n, length-append old xs)))
    ∙ append_assoc old xs (0x0A ∷ [])

-- and its length
pub answer_most : (bs : List ℕ) (n : ℕ) → 2 ≤ n → length bs ≤ n → length (answer_text bs) ≤ n * 2 + 1
unfolding answer_text
answer_most [] n k h = omega arith
answer_most (b ∷ bs) n k h = omega (arith, text_length (b ∷ bs), length-append (hex_text (b ∷ bs)) (0x0A ∷ []))

-- ---- bytes that are an answer
pub says_none : (t : List ℕ) → t ≡ [] → Says t []
says_none t e = record { is = e; fits = omega arith }

-- pieces, one after another
pub says_pieces : (ss : List (List ℕ)) (bs : List ℕ) (t : List ℕ) → t ≡ puts [] ss → joined ss ≡ bs → length bs ≤ 603 → Says t bs
says_pieces ss bs t e p h = record { is = e ∙ pieces_are ss (omega (arith, ap length p)) ∙ p; fits = h }

pub says_word : (n : ℕ) (t : List ℕ) → t ≡ put [] (bytes_of 2 n) → Says t (bytes_of 2 n)
says_word n t e = says_pieces (bytes_of 2 n ∷ []) (bytes_of 2 n) t e (append-nil (bytes_of 2 n)) (omega (arith, length_bytes_of 2 n))

module _ (op : ℕ) (a b : List ℕ) (t : List ℕ) where
  pub says_first : op ≡ 0 → Says t a → Says t (by_operation op a b)
  says_first e h = rw e h

  pub says_second : op ≡ 1 → Says t b → Says t (by_operation op a b)
  says_second e h = rw e h

  pub says_other : (op ≡ 0 → ⊥) → (op ≡ 1 → ⊥) → t ≡ [] → Says t (by_operation op a b)
  says_other h k e = rw (ne_eqb op 0 h, ne_eqb op 1 k) (says_none t e)

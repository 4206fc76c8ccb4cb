-- Laws of a case of bodies: one for each way through the code. Assumes nothing.
use mathlib.Core.Path.{◌≡◌, ap, ◌∙◌}
use mathlib.Core.List.{List, [], ◌∷◌, append-nil}
use Prim.Native.Nat.{ℕ, ◌-◌, ◌≤◌, ◌<◌}
use native.Mathlib.Omega.{arith}
use borrow.Author.Tests.{lt-ltb, le-ltb}
use lib.ListN.{length, take, drop, length-drop}
use lib.Seq.{take_all}
use Rattle.base.specs.Bytes.{number_at}
use Rattle.std.specs.Prelude.{Ok, Err}
use Rattle.wire.specs.Body.{ReadBody, number_of, body_answer, read_body, answer_to_body}
use Rattle.wire.specs.declared.LineFault.{LineFault}
use Rattle.wire.proofs.BodyLength.{Short, read_short}
use Rattle.frame_words.specs.Texts.{put, puts}
use Rattle.cases.specs.Cases.{Says}
use Rattle.cases.specs.Layings.{pattern}
use Rattle.cases.proofs.AnswerLaws.{says_none, says_pieces}
use Rattle.body_cases.specs.Answers.{read_bytes, laid_into, lay_answer}

-- ---- a body that is read
-- by what was read
short : (r : ReadBody) → Short r → length (read_bytes (body_answer r)) ≤ 271
short (Ok (a, xs)) h = omega arith
short (Err e) h = omega arith

module _ (s : List ℕ) (t : List ℕ) where
  reads : (r : ReadBody) → r ≡ read_body s → length (read_bytes (answer_to_body s)) ≤ 603
  reads r e = omega (arith, short (read_body s) (read_short s))

  pub read_refused : (e : LineFault) (n : ℕ) → Err e ≡ read_body s → n ≡ number_of e → t ≡ put [] (n ∷ []) → Says t (read_bytes (answer_to_body s))
  read_refused e n p q u =
      let w : n ∷ [] ≡ read_bytes (answer_to_body s) = ap (λ (m : ℕ). m ∷ []) q ∙ ap (λ (r : ReadBody). read_bytes (body_answer r)) p in
      says_pieces ((n ∷ []) ∷ []) (read_bytes (answer_to_body s)) t u w (omega (arith, reads _ p))

  pub read_valid : (a : ℕ) (xs : List ℕ) → Ok (a, xs) ≡ read_body s → t ≡ puts [] ((0 ∷ a ∷ []) ∷ xs ∷ []) → Says t (read_bytes (answer_to_body s))
  read_valid a xs p u =
      let w : 0 ∷ a ∷ xs ≡ read_bytes (answer_to_body s) = ap (λ (r : ReadBody). read_bytes (body_answer r)) p in
      says_pieces ((0 ∷ a ∷ []) ∷ xs ∷ []) (read_bytes (answer_to_body s)) t u (ap (λ (l : List ℕ). 0 ∷ a ∷ l) (append-nil xs) ∙ w) (omega (arith, reads _ p))

-- ---- application data laid down
module _ (s : List ℕ) (t : List ℕ) where
  pub lay_short : length s < 3 → t ≡ [] → Says t (lay_answer s)
  unfolding lay_answer
  lay_short h e = rw (lt-ltb (length s) 3 h) (says_none t e)

  module _ (h : 3 ≤ length s) (n : ℕ) (p : n ≡ number_at s 0 2) where
    pub lay_wide : 600 < n → t ≡ [] → Says t (lay_answer s)
    unfolding lay_answer
    lay_wide k e = rw (le-ltb (length s) 3 h, ← p, lt-ltb 600 n k) (says_none t e)

    pub lay_laid : (buf : List ℕ) (a : ℕ) → n ≤ 600 → buf ≡ pattern → a ≡ number_at s 2 1 → Says t (laid_into (take n buf) a (take (length s - 3) (drop 3 s)))
        → Says t (lay_answer s)
    unfolding lay_answer
    lay_laid buf a k q r x =
        let z : take (length s - 3) (drop 3 s) ≡ drop 3 s = take_all (length s - 3) (drop 3 s) (omega (arith, length-drop 3 s)) in
        rw (le-ltb (length s) 3 h, ← p, le-ltb 600 n k, ← r, ← q) (rw z at x)

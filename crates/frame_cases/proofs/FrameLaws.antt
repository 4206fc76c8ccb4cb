-- Laws of a case of frames: one for each way through the code. Assumes nothing.
use mathlib.Core.Path.{◌≡◌, sym, ap, ◌∙◌, subst}
use mathlib.Core.Bool.{true, false, ◌||◌}
use mathlib.Core.List.{List, [], ◌∷◌, ◌++◌, append-nil}
use Prim.Native.Nat.{ℕ, ◌+◌, ◌-◌, ◌≤◌, ◌<◌}
use native.Mathlib.Omega.{arith}
use borrow.Author.Tests.{lt-ltb, le-ltb, ltb-false}
use lib.Dec.{ltb}
use lib.ListN.{length, take, drop, length-take, length-drop, length-append}
use lib.Seq.{take_all}
use Rattle.base.specs.Bytes.{number_at}
use Rattle.base.proofs.Choosing.{absurdly, or_right_false}
use Rattle.fields.specs.Fields.{laid}
use Rattle.fields.proofs.Tables.{length_laid}
use Rattle.std.specs.Prelude.{Ok, Err}
use Rattle.wire.specs.Body.{ReadBody, read_body}
use Rattle.wire.proofs.BodyLength.{Short, read_short}
use Rattle.frame_kinds.specs.Kinds.{tail_of, data_len, data_start, data_in}
use Rattle.frame_kinds.proofs.Parts.{data_at_lem}
use Rattle.frame_reading.specs.Reading.{ReadFrame, number_of, framed, frame_answer, read_frame, answer_to_frame}
use Rattle.frame_reading.specs.declared.BodyFault.{BodyFault}
use Rattle.frame_reading.proofs.Receiving.{read_says, passed_on}
use Rattle.frame_kinds.specs.declared.kinds.Frame.{Frame}
use Rattle.frame_words.specs.Texts.{put, puts}
use Rattle.cases.specs.Cases.{Says}
use Rattle.cases.specs.Layings.{pattern}
use Rattle.cases.proofs.AnswerLaws.{says_none, says_pieces}
use Rattle.case_fields.specs.Kinds.{row_of, frame_at, fields_len}
use Rattle.case_fields.proofs.KindLaws.{rows}
use Rattle.frame_cases.specs.Answers.{read_bytes, written_into, write_answer}

-- ---- a body that is read
-- what is read is short
abbrev Brief : ReadFrame → Type 0
Brief (Ok (a, f, s)) = length s ≤ 269
Brief (Err e) = Unit

short : (b : ReadBody) → Short b → (r : ReadFrame) → framed b ≡ r → Brief r
short (Ok (a, s)) h (Ok (c, f, xs)) e =
    let w = read_says c f xs (Ok (a, s)) e in
    let k : length xs ≤ 269 = subst Short w.0 h in
    k
short (Err x) h (Ok r) e = absurdly (cc)
short b h (Err e) q = tt

module _ (s t : List ℕ) where
  pub read_refused : (e : BodyFault) (n : ℕ) → Err e ≡ read_frame s → n ≡ number_of e → t ≡ put [] (n ∷ []) → Says t (read_bytes (answer_to_frame s))
  read_refused e n p q u =
      let w : n ∷ [] ≡ read_bytes (answer_to_frame s)
      = ap (λ (m : ℕ). m ∷ []) q ∙ ap (λ (r : ReadFrame). read_bytes (frame_answer r)) p ∙ ap read_bytes (passed_on s) in
      says_pieces ((n ∷ []) ∷ []) (read_bytes (answer_to_frame s)) t u w (omega (arith, ap length w))

  module _ (a : ℕ) (f : Frame) (app : List ℕ) (p : Ok (a, f, app) ≡ read_frame s) where
    abbrev taken : List ℕ
    taken = take (data_len f) (drop (data_start f) app)

    app_short : length app ≤ 269
    unfolding read_frame
    app_short = short (read_body s) (read_short s) (Ok (a, f, app)) (sym p)

    pub read_valid : t ≡ puts [] ((0 ∷ a ∷ []) ∷ ((row_of f).0 ∷ []) ∷ laid (row_of f).1 ∷ laid (tail_of f) ∷ taken ∷ []) → Says t (read_bytes (answer_to_frame s))
    read_valid u =
        let g : List ℕ = laid (row_of f).1 in
        let h : List ℕ = laid (tail_of f) in
        let z : taken ≡ data_in f app = data_at_lem f app in
        let w : 0 ∷ a ∷ (row_of f).0 ∷ (g ++ (h ++ taken)) ≡ read_bytes (answer_to_frame s) =
        ap (λ (l : List ℕ). 0 ∷ a ∷ (row_of f).0 ∷ (g ++ (h ++ l))) z
        ∙ ap (λ (r : ReadFrame). read_bytes (frame_answer r)) p ∙ ap read_bytes (passed_on s) in
        let d : length taken ≤ 269 = omega (arith, length-take (data_len f) (drop (data_start f) app), length-drop (data_start f) app, app_short) in
        says_pieces ((0 ∷ a ∷ []) ∷ ((row_of f).0 ∷ []) ∷ g ∷ h ∷ taken ∷ []) (read_bytes (answer_to_frame s)) t u
        (ap (λ (l : List ℕ). 0 ∷ a ∷ (row_of f).0 ∷ (g ++ (h ++ l))) (append-nil taken) ∙ w)
        (omega (arith, ap length w, length-append g (h ++ taken), length-append h taken, length_laid (row_of f).1, length_laid (tail_of f), (rows f).0, (rows f).1))

-- ---- a frame that is written
pub within : (k n : ℕ) → (ltb 0x0C k || ltb 600 n) ≡ false → n ≤ 600
within k n h = ltb-false 600 n (or_right_false (ltb 0x0C k) (ltb 600 n) h)

module _ (s : List ℕ) (t : List ℕ) (n k : ℕ) (p : n ≡ number_at s 0 2) (q : k ≡ number_at s 3 1) where
  pub write_none : (ltb 0x0C k || ltb 600 n) ≡ true → t ≡ [] → Says t (write_answer s)
  unfolding write_answer
  write_none h e = rw (← q, ← p, h) (says_none t e)

  module _ (h : (ltb 0x0C k || ltb 600 n) ≡ false) where
    pub write_short : length s < 4 + fields_len k → t ≡ [] → Says t (write_answer s)
    unfolding write_answer
    write_short i e = rw (← q, ← p, h, lt-ltb (length s) (4 + fields_len k) i) (says_none t e)

    pub write_written : (m a : ℕ) (f : Frame) (buf : List ℕ) → m ≡ fields_len k → 4 + m ≤ length s → a ≡ number_at s 2 1
        → f ≡ frame_at k (take (length s - 4) (drop 4 s)) → buf ≡ pattern
        → Says t (written_into (take n buf) a f (take (length s - (4 + m)) (drop (4 + m) s))) → Says t (write_answer s)
    unfolding write_answer
    write_written m a f buf d i b g c x =
        let y : take (length s - 4) (drop 4 s) ≡ drop 4 s = take_all (length s - 4) (drop 4 s) (omega (arith, length-drop 4 s)) in
        let z : take (length s - (4 + m)) (drop (4 + m) s) ≡ drop (4 + m) s = take_all (length s - (4 + m)) (drop (4 + m) s) (omega (arith, length-drop (4 + m) s)) in
        let j : f ≡ frame_at k (drop 4 s) = g ∙ ap (frame_at k) y in
        rw (← q, ← p, h, ← d, le-ltb (length s) (4 + m) i, ← b, ← j, ← c) (rw z at x)

-- Laws of a line's answer, one for each rule; and a line that is passed on is printed whole. Assumes nothing.
use Rattle.std.proofs.Common.{◌≡◌, ℕ, ◌<◌, ◌≤◌, Bool, true, false, ◌||◌, List, [], ◌∷◌, ◌++◌, length, refl, ap, ◌∙◌, arith, length-append, length-drop, take, drop, ◌-◌, le-ltb, lt-ltb}
use Rattle.base.proofs.Choosing.{never}
use Rattle.list_lines.specs.Listed.{is_silent, is_ticks_or_inputs, has_port, is_port_body}
use lib.Seq.{take_all}
use Rattle.text.specs.Texts.{with_piece}
use Rattle.frame_words.specs.Texts.{room, put, end_line}
use Rattle.frame_asking.specs.Outcome.{outcome_of, said}
use Rattle.frame_words.proofs.TextLaws.{pieces_are}
use Rattle.framing.specs.Answers.{over_text, passed_text, answer_of}

module _ (number s : List ℕ) where
  pub answer_over : 1200 < length s → answer_of number s ≡ over_text number
  unfolding answer_of
  answer_over h = rw (lt-ltb 1200 (length s) h)

  module _ (h : length s ≤ 1200) where
    pub answer_silent : is_silent s ≡ true → answer_of number s ≡ []
    unfolding answer_of
    answer_silent e = rw (le-ltb 1200 (length s) h, e)

    module _ (a : is_silent s ≡ false) where
      pub answer_ticks : is_ticks_or_inputs s ≡ true → answer_of number s ≡ passed_text s
      unfolding answer_of
      answer_ticks e = rw (le-ltb 1200 (length s) h, a, e)

      module _ (b : is_ticks_or_inputs s ≡ false) where
        pub answer_body : is_port_body s ≡ true → answer_of number s ≡ passed_text s
        unfolding answer_of
        answer_body e = rw (le-ltb 1200 (length s) h, a, b, e)

        module _ (d : is_port_body s ≡ false) where
          pub answer_port : has_port s ≡ true → end_line (said number (put [] (take 2 s)) (outcome_of (take (length s - 2) (drop 2 s)))) ≡ answer_of number s
          unfolding answer_of
          answer_port e =
              rw (le-ltb 1200 (length s) h, a, b, d, e)
              (ap (λ (l : List ℕ). end_line (said number (put [] (take 2 s)) (outcome_of l))) (take_all (length s - 2) (drop 2 s) (omega (arith, length-drop 2 s))))

          pub answer_plain : has_port s ≡ false → end_line (said number (put [] []) (outcome_of s)) ≡ answer_of number s
          unfolding answer_of with_piece
          answer_plain e = rw (le-ltb 1200 (length s) h, a, b, d, e)

-- ---- a script's own line is printed whole, with its LF
passed_text_lem : (s : List ℕ) → length s ≤ 1200 → passed_text s ≡ s ++ (0x0A ∷ [])
passed_text_lem s h =
    let n : length (s ++ (0x0A ∷ [])) ≤ room = omega (arith, length-append s (0x0A ∷ [])) in
    pieces_are (s ∷ (0x0A ∷ []) ∷ []) n

pub passed_whole : (number s : List ℕ) → length s ≤ 1200 → is_silent s ≡ false → (is_ticks_or_inputs s || is_port_body s) ≡ true
    → answer_of number s ≡ s ++ (0x0A ∷ [])
passed_whole number s h a p = by (is_ticks_or_inputs s) refl (is_port_body s) refl p
  where
    by : (x : Bool) → is_ticks_or_inputs s ≡ x → (y : Bool) → is_port_body s ≡ y → (x || y) ≡ true
        → answer_of number s ≡ s ++ (0x0A ∷ [])
    by true e y f q = answer_ticks number s h a e ∙ passed_text_lem s h
    by false e true f q = answer_body number s h a e f ∙ passed_text_lem s h
    by false e false f q = never q

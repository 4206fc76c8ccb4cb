-- What is said to lines, one after another; and from here on: the transcript, from the start, and no more than the end, once a program is
-- quiet. Assumes nothing.
use mathlib.Core.Path.{◌≡◌, refl, sym, ap, ap₂, ◌∙◌}
use mathlib.Core.List.{List, [], ◌∷◌, ◌++◌, append_assoc}
use Prim.Native.Nat.{ℕ}
use Rattle.console.specs.Lines.{lines_of}
use Rattle.console.specs.Programs.{Program, Quiet, next_all, says_all, transcript}
use Rattle.console.specs.Speaking.{spoken}

module _ {S : Type 0} (P : Program S) where
  -- lines, one after another
  pub says_append : (s : S) (ls ms : List (List ℕ)) → says_all P s (ls ++ ms) ≡ says_all P s ls ++ says_all P (next_all P s ls) ms
  says_append s [] ms = refl
  says_append s (l ∷ ls) ms =
      ap (λ (t : List ℕ). P.says s l ++ t) (says_append (P.next s l) ls ms)
      ∙ sym (append_assoc (P.says s l) (says_all P (P.next s l) ls) (says_all P (next_all P (P.next s l) ls) ms))

  pub all_spoken : (s : S) (ls : List (List ℕ)) → spoken P s ls ≡ says_all P s ls ++ P.ends (next_all P s ls)
  all_spoken s [] = refl
  all_spoken s (l ∷ ls) =
      ap (λ (t : List ℕ). P.says s l ++ t) (all_spoken (P.next s l) ls)
      ∙ sym (append_assoc (P.says s l) (says_all P (P.next s l) ls) (P.ends (next_all P (P.next s l) ls)))

  pub transcript_spoken : (input : List ℕ) → P.first ++ spoken P P.start (lines_of input) ≡ transcript P input
  transcript_spoken input =
      ap (λ (t : List ℕ). P.first ++ t) (all_spoken P.start (lines_of input))
      ∙ sym (append_assoc P.first (says_all P P.start (lines_of input)) (P.ends (next_all P P.start (lines_of input))))

  module _ (s : S) (q : Quiet P s) where
    pub quiet_rest : (ls : List (List ℕ)) → (next_all P s ls ≡ s) × (says_all P s ls ≡ [])
    quiet_rest [] = (refl, refl)
    quiet_rest (l ∷ ls) =
        let k = quiet_rest ls in (
          ap (λ (z : S). next_all P z ls) (q.stays l) ∙ k.0,
          ap₂ (λ (t : List ℕ) (z : S). t ++ says_all P z ls) (q.silent l) (q.stays l) ∙ k.1,
        )

    pub quiet_spoken : (ls : List (List ℕ)) → spoken P s ls ≡ spoken P s []
    quiet_spoken ls = let k = quiet_rest ls in all_spoken s ls ∙ ap₂ (λ (t : List ℕ) (z : S). t ++ P.ends z) k.1 k.0

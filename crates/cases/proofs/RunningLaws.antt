-- What is said to a line: the text of its answer, which is short enough for a page. Assumes nothing.
use mathlib.Core.Path.{◌≡◌, ap, ◌∙◌}
use mathlib.Core.List.{List, [], ◌∷◌, ◌++◌, append_assoc}
use Prim.Native.Nat.{ℕ, ◌≤◌}
use native.Mathlib.Omega.{arith}
use lib.ListN.{length, length-append}
use Rattle.text.specs.Putting.{hex_text}
use Rattle.text.proofs.PuttingLaws.{text_length}
use Rattle.console.specs.Showing.{shown}
use Rattle.cases.specs.Cases.{case_of, answer_to, answer_text, Says}
use Rattle.cases.proofs.CaseLaws.{case_shown}

text_most : (bs : List ℕ) → length bs ≤ 603 → length (answer_text bs) ≤ 2048
unfolding answer_text
text_most [] h = omega arith
text_most (b ∷ bs) h = omega (arith, text_length (b ∷ bs), length-append (hex_text (b ∷ bs)) (0x0A ∷ []))

module _ {t bs text : List ℕ} (a : Says t bs) (e : text ≡ answer_text t) where
  text_is : text ≡ answer_text bs
  text_is = e ∙ ap answer_text a.is

  pub said_short : length text ≤ 2048
  said_short = omega (arith, ap length text_is, text_most bs a.fits)

-- and what is said from there on
pub said : (f : ℕ → List ℕ → List ℕ) (line cs page : List ℕ) {t text page' : List ℕ} → line ≡ shown cs → Says t (answer_to f (case_of line)) → text ≡ answer_text t
    → page' ≡ page ++ text → (rest : List ℕ) → page' ++ rest ≡ page ++ (answer_text (answer_to f (case_of cs)) ++ rest)
said f line cs page {text = text} s a e p rest =
    ap (λ (u : List ℕ). u ++ rest)
    (p ∙ ap (λ (u : List ℕ). page ++ u) (text_is a e ∙ ap (λ (l : List ℕ). answer_text (answer_to f l)) (case_shown line cs s)))
    ∙ append_assoc page (answer_text (answer_to f (case_of cs))) rest

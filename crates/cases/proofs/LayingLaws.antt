-- Laws of laying down as a case: a turn of the loop that makes the pattern, and the answer's pieces as one. Assumes nothing.
use mathlib.Core.Path.{◌≡◌, sym, ap, ◌∙◌}
use mathlib.Core.List.{List, [], ◌∷◌, ◌++◌, append-nil, append_assoc}
use Prim.Native.Nat.{ℕ, ◌+◌, ◌-◌, ◌%◌, ◌≤◌, ◌<◌}
use native.Mathlib.Omega.{arith}
use native.Mathlib.Numerals.{add-one}
use lib.ListN.{length, take, set, length-append}
use lib.Seq.{take_all, take-suc-set}
use Rattle.base.specs.Bytes.{bytes_of}
use Rattle.base.proofs.Numbers.{length_bytes_of}
use Rattle.base.proofs.Fills.{left_turn, left_end}
use Rattle.laying.specs.Laying.{Laid, laid_answer, left_by}
use Rattle.frame_words.specs.Texts.{puts}
use Rattle.cases.specs.Cases.{Says}
use Rattle.cases.proofs.AnswerLaws.{says_pieces}
use Rattle.cases.specs.Layings.{pattern_from, pattern, sent_len, laid_bytes}

-- what is made of the pattern, and what is left of it
abbrev pub Filled : List ℕ → ℕ → Type 0
Filled buf i = (take i buf ++ pattern_from i (600 - i) ≡ pattern) × (length buf ≡ 600)

pub pattern_turn : (buf : List ℕ) (i : ℕ) → i < 600 → length buf ≡ 600 → take i buf ++ pattern_from i (600 - i) ≡ pattern
    → take (i + 1) (set buf i (i % 251)) ++ pattern_from (i + 1) (600 - (i + 1)) ≡ pattern
unfolding pattern_from
pattern_turn buf i h l p =
    ap (λ (s : List ℕ). s ++ pattern_from (i + 1) (600 - (i + 1))) (ap (λ (n : ℕ). take n (set buf i (i % 251))) (add-one i) ∙ take-suc-set buf i (i % 251) (omega arith))
    ∙ append_assoc (take i buf) (i % 251 ∷ []) (pattern_from (i + 1) (600 - (i + 1)))
    ∙ ap (λ (n : ℕ). take i buf ++ pattern_from i n) (sym (left_turn 600 i h)) ∙ p

pub pattern_end : (buf : List ℕ) (i : ℕ) → 600 ≤ i → length buf ≡ 600 → take i buf ++ pattern_from i (600 - i) ≡ pattern → buf ≡ pattern
unfolding pattern_from
pattern_end buf i h l p =
    sym (take_all i buf (omega arith)) ∙ sym (append-nil (take i buf)) ∙ ap (λ (n : ℕ). take i buf ++ pattern_from i n) (sym (left_end 600 i h)) ∙ p

-- a buffer of at most 600 bytes is printed whole
pub laid_says : (laid : Laid) (line buf out : List ℕ) (t : List ℕ) → length out ≤ 600 → out ≡ left_by laid line buf
    → t ≡ puts [] (((laid_answer laid).0 ∷ []) ∷ bytes_of 2 (sent_len laid) ∷ out ∷ []) → Says t (laid_bytes laid line buf)
laid_says laid line buf out t h e p =
    let k : List ℕ = bytes_of 2 (sent_len laid) in
    let q : (laid_answer laid).0 ∷ (k ++ (out ++ [])) ≡ laid_bytes laid line buf = ap (λ (s : List ℕ). (laid_answer laid).0 ∷ (k ++ s)) (append-nil out ∙ e) in
    let l : length (laid_bytes laid line buf) ≡ length out + 3 =
    ap (λ (s : List ℕ). length ((laid_answer laid).0 ∷ (k ++ s))) (sym e) ∙ omega (arith, length-append k out, length_bytes_of 2 (sent_len laid)) in
    says_pieces (((laid_answer laid).0 ∷ []) ∷ k ∷ out ∷ []) (laid_bytes laid line buf) t p q (omega arith)

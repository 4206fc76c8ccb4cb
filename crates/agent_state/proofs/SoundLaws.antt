-- The outputs one by one. Assumes nothing.
use Rattle.std.proofs.Common.{◌≡◌, ℕ, zero, suc, ◌+◌, ◌≤◌, ◌<◌, Bool, true, false, ◌&&◌, eqb, List, [], ◌∷◌, length, get_or, take, drop, refl, sym, ap, ap₂, ◌∙◌, add-one, arith, length-drop}
use Rattle.std.specs.List.{list_all}
use Rattle.std.proofs.lemmas.List.Folds.{list_all-append}
use lib.Seq.{take-suc, get_or-drop}
use Rattle.rules.specs.Registers.{outputs_at}
use Rattle.rules.specs.Sound.{outputs_zero}

pub outputs_none : (r : List ℕ) → true ≡ outputs_zero r 0
unfolding outputs_zero
outputs_none r = refl

pub outputs_turn : (r : List ℕ) (n : ℕ) (b : Bool) → b ≡ outputs_zero r n → (b && eqb (get_or r (outputs_at + n) 0) 0) ≡ outputs_zero r (n + 1)
unfolding outputs_zero
outputs_turn r n b p =
    ap (λ (c : Bool). c && eqb (get_or r (outputs_at + n) 0) 0) p ∙ ap (outputs_zero r) (sym (add-one n))

-- all 64, by std's `list_all`
and_all : (b : Bool) → (b && true) ≡ b
and_all true = refl
and_all false = refl

zeros : (r : List ℕ) (n : ℕ) → outputs_at + n ≤ length r → list_all (λ x. eqb x 0) (take n (drop outputs_at r)) ≡ outputs_zero r n
unfolding outputs_zero
zeros r zero h = refl
zeros r (suc n) h =
    let d : n < length (drop outputs_at r) = omega (arith, length-drop outputs_at r) in
    ap (list_all (λ x. eqb x 0)) (take-suc (drop outputs_at r) n 0 d)
    ∙ list_all-append (λ x. eqb x 0) (take n (drop outputs_at r)) (get_or (drop outputs_at r) n 0 ∷ [])
    ∙ ap₂ (λ (b c : Bool). b && c) (zeros r n (omega arith)) (and_all (eqb (get_or (drop outputs_at r) n 0) 0) ∙ ap (λ (x : ℕ). eqb x 0) (get_or-drop outputs_at r n 0))

pub outputs_all : (r : List ℕ) → length r ≡ 256 → list_all (λ x. eqb x 0) (take 64 (drop 128 r)) ≡ outputs_zero r 64
outputs_all r h = zeros r 64 (omega (arith, h))

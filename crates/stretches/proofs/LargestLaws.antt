-- The largest of some sums and the earliest that has it, sum by sum. Assumes nothing.
use Rattle.std.proofs.Common.{◌≡◌, ℕ, ◌+◌, ◌<◌, ◌≤◌, max, Bool, true, false, eqb, ltb, List, [], ◌∷◌, sym, refl, ap, ◌∙◌, ap₂, arith, ltb-false, ltb-true, le-ltb, lt-ltb, eq-eqb, ne_eqb}
use Rattle.base.specs.Choice.{choose}
use Rattle.base.proofs.Choosing.{choose_true, choose_false}
use Rattle.stretches.specs.Stretches.{Worst, largest, earliest}

abbrev pub worst : ℕ → ℕ → Worst
worst sum first = record { sum = sum; first = first }

-- the worst after more sums, numbered from n on: one replaces it only if it is larger
unfoldable pub worst_after : Worst → ℕ → List ℕ → Worst
worst_after w n [] = w
worst_after w n (s ∷ ss) = worst_after (choose (ltb w.sum s) (worst s n) w) (n + 1) ss

pub after_none : (w : Worst) (n : ℕ) → worst_after w n [] ≡ w
unfolding worst_after
after_none w n = refl

pub after_one : (w : Worst) (n s : ℕ) (ss : List ℕ) → worst_after w n (s ∷ ss) ≡ worst_after (choose (ltb w.sum s) (worst s n) w) (n + 1) ss
unfolding worst_after
after_one w n s ss = refl

-- ---- the same from the whole list
abbrev whole : Worst → ℕ → List ℕ → Worst
whole w n ss = choose (ltb w.sum (largest ss)) (worst (largest ss) (earliest n (largest ss) ss)) w

-- one sum more in front
module _ (n s : ℕ) (ss : List ℕ) where
  first_larger : s < largest ss → (largest (s ∷ ss) ≡ largest ss) × (earliest n (largest (s ∷ ss)) (s ∷ ss) ≡ earliest (n + 1) (largest ss) ss)
  unfolding largest earliest
  first_larger h =
      let e : max s (largest ss) ≡ largest ss = omega arith in
      (e, ap (λ (m : ℕ). choose (eqb s m) n (earliest (n + 1) m ss)) e ∙ choose_false _ _ (ne_eqb s (largest ss) (λ q. omega arith)))

  first_not : largest ss ≤ s → (largest (s ∷ ss) ≡ s) × (earliest n (largest (s ∷ ss)) (s ∷ ss) ≡ n)
  unfolding largest earliest
  first_not h =
      let e : max s (largest ss) ≡ s = omega arith in
      (e, ap (λ (m : ℕ). choose (eqb s m) n (earliest (n + 1) m ss)) e ∙ choose_true _ _ (eq-eqb s s refl))

  first_neither : (m : ℕ) → s ≤ m → largest ss ≤ m → largest (s ∷ ss) ≤ m
  unfolding largest
  first_neither m h k = omega arith

  both : (w : Worst) (t u : Bool) → ltb w.sum s ≡ t → ltb (choose t s w.sum) (largest ss) ≡ u
      → choose u (worst (largest ss) (earliest (n + 1) (largest ss) ss)) (choose t (worst s n) w) ≡ whole w n (s ∷ ss)
  both w true true t u =
      let h = first_larger (ltb-true _ _ u) in
      let a : w.sum < s = ltb-true _ _ t in
      let b : s < largest ss = ltb-true _ _ u in
      sym (choose_true _ _ (lt-ltb w.sum (largest (s ∷ ss)) (omega (arith, h.0))) ∙ ap₂ worst h.0 h.1)
  both w true false t u =
      let h = first_not (ltb-false _ _ u) in
      let a : w.sum < s = ltb-true _ _ t in
      sym (choose_true _ _ (lt-ltb w.sum (largest (s ∷ ss)) (omega (arith, h.0))) ∙ ap₂ worst h.0 h.1)
  both w false true t u =
      let a : s ≤ w.sum = ltb-false _ _ t in
      let b : w.sum < largest ss = ltb-true _ _ u in
      let h = first_larger (omega arith) in
      sym (choose_true _ _ (lt-ltb w.sum (largest (s ∷ ss)) (omega (arith, h.0))) ∙ ap₂ worst h.0 h.1)
  both w false false t u = sym (choose_false _ _ (le-ltb w.sum (largest (s ∷ ss)) (first_neither w.sum (ltb-false _ _ t) (ltb-false _ _ u))))

sum_chosen : (t : Bool) (w v : Worst) → (choose t v w).sum ≡ choose t v.sum w.sum
sum_chosen true w v = refl
sum_chosen false w v = refl

largest_none : largest [] ≡ 0
unfolding largest
largest_none = refl

after_whole : (w : Worst) (n : ℕ) (ss : List ℕ) → worst_after w n ss ≡ whole w n ss
after_whole w n [] = after_none w n ∙ sym (choose_false _ _ (le-ltb w.sum (largest []) (omega (arith, largest_none))))
after_whole w n (s ∷ ss) =
    let t : Bool = ltb w.sum s in
    after_one w n s ss
    ∙ after_whole (choose t (worst s n) w) (n + 1) ss
    ∙ ap (λ (m : ℕ). choose (ltb m (largest ss)) (worst (largest ss) (earliest (n + 1) (largest ss) ss)) (choose t (worst s n) w)) (sum_chosen t w (worst s n))
    ∙ both n s ss w t (ltb (choose t s w.sum) (largest ss)) refl refl

-- where no sum is above 0, the first of them is the earliest
zero_first : (n : ℕ) (ss : List ℕ) → largest ss ≤ 0 → earliest n (largest ss) ss ≡ n
unfolding earliest largest
zero_first n [] h = refl
zero_first n (s ∷ ss) h = choose_true _ _ (eq-eqb s (max s (largest ss)) (omega arith))

-- THE LAW: from 0 and the first number on, what is left is the largest and the earliest that has it
pub after_all_lem : (n : ℕ) (ss : List ℕ) → worst_after (worst 0 n) n ss ≡ worst (largest ss) (earliest n (largest ss) ss)
after_all_lem n ss = after_whole (worst 0 n) n ss ∙ by (ltb 0 (largest ss)) refl
  where
    by : (t : Bool) → ltb 0 (largest ss) ≡ t → choose t (worst (largest ss) (earliest n (largest ss) ss)) (worst 0 n) ≡ worst (largest ss) (earliest n (largest ss) ss)
    by true t = refl
    by false t = let h : largest ss ≤ 0 = ltb-false _ _ t in ap₂ worst (omega arith) (sym (zero_first n ss h))

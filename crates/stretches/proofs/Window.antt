-- The last counts in the order of their lines, the oldest first: a count more at the end, and the oldest off. Assumes nothing.
use Rattle.std.proofs.Common.{◌≡◌, ℕ, ◌+◌, ◌<◌, ◌≤◌, Bool, true, false, ltb, List, [], ◌∷◌, ◌++◌, length, get_or, take, drop, set, sym, refl, ap, ◌∙◌, ap₂, append_assoc, append-nil, add-one, arith, length-append, take-append-drop, drop_of_length-le, drop-cons, take-suc-set, drop-set-lt, ltb-false, ltb-true}
use lib.Seq.{set_split}
use Rattle.stretches.specs.Stretches.{stretch}
use Rattle.stretches.specs.Rolling.{place}

-- the counts from a place on, then those before it
abbrev pub window : ℕ → List ℕ → List ℕ
window at l = drop at l ++ take at l

module _ (l : List ℕ) (at c : ℕ) (h : at < length l) where
  -- the oldest is in front
  pub window_front : window at l ≡ get_or l at 0 ∷ drop 1 (window at l)
  window_front = rw (drop-cons l at 0 h) refl

  window_rest : drop 1 (window at l) ≡ drop (at + 1) l ++ take at l
  window_rest = rw (drop-cons l at 0 h) (ap (λ (n : ℕ). drop n l ++ take at l) (sym (add-one at)))

  -- the next place comes after this one
  next_after : drop (at + 1) (set l at c) ++ take (at + 1) (set l at c) ≡ drop 1 (window at l) ++ (c ∷ [])
  next_after =
      ap₂ ◌++◌ (drop-set-lt (at + 1) l at c (omega arith)) (ap (λ (n : ℕ). take n (set l at c)) (add-one at) ∙ take-suc-set l at c h)
      ∙ sym (append_assoc (drop (at + 1) l) (take at l) (c ∷ []))
      ∙ ap (λ (t : List ℕ). t ++ (c ∷ [])) (sym window_rest)

  -- or the first again
  next_first : at + 1 ≡ length l → set l at c ++ [] ≡ drop 1 (window at l) ++ (c ∷ [])
  next_first e =
      let n : drop (at + 1) l ≡ [] = drop_of_length-le l {i = at + 1} (omega arith) in
      append-nil (set l at c)
      ∙ set_split l at c h
      ∙ ap (λ (t : List ℕ). take at l ++ c ∷ t) (ap (λ (m : ℕ). drop m l) (sym (add-one at)) ∙ n)
      ∙ ap (λ (t : List ℕ). t ++ (c ∷ [])) (sym (window_rest ∙ ap (λ (t : List ℕ). t ++ take at l) n))

-- THE LAW of the place: line n + 1 puts its count at n modulo 1,000
pub window_step : (l : List ℕ) (n c : ℕ) → length l ≡ stretch → window (place (n + 1)) (set l (place n) c) ≡ drop 1 (window (place n) l) ++ (c ∷ [])
window_step l n c h = by (ltb (place n + 1) stretch) refl
  where
    by : (t : Bool) → ltb (place n + 1) stretch ≡ t → window (place (n + 1)) (set l (place n) c) ≡ drop 1 (window (place n) l) ++ (c ∷ [])
    by true t =
        let k : place n + 1 < stretch = ltb-true _ _ t in
        let e : place (n + 1) ≡ place n + 1 = omega arith in
        ap (λ (m : ℕ). window m (set l (place n) c)) e ∙ next_after l (place n) c (omega arith)
    by false t =
        let k : stretch ≤ place n + 1 = ltb-false _ _ t in
        let e : place (n + 1) ≡ 0 = omega arith in
        ap (λ (m : ℕ). window m (set l (place n) c)) e ∙ next_first l (place n) c (omega arith) (omega arith)

pub window_length : (l : List ℕ) (at : ℕ) → length (window at l) ≡ length l
window_length l at = omega (arith, length-append (drop at l) (take at l), length-append (take at l) (drop at l), ap length (take-append-drop at l))

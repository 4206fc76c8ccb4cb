-- Laws of sums, and of the sums of all stretches: one count more, and the first stretches left out. Assumes nothing.
use Rattle.std.proofs.Common.{◌≡◌, ℕ, zero, suc, ◌+◌, ◌-◌, ◌<◌, ◌≤◌, Bool, true, false, leb, List, [], ◌∷◌, ◌++◌, length, get_or, take, drop, sym, refl, ap, ◌∙◌, arith, length-append, take_at, le-leb, leb-false, leb-true}
use borrow.Author.Tests.{lt-leb}
use lib.Seq.{drop-nil}
use Rattle.base.proofs.Choosing.{choose_true, choose_false}
use Rattle.stretches.specs.Stretches.{sum, sums}

-- ---- sums
pub sum_append : (xs ys : List ℕ) → sum (xs ++ ys) ≡ sum xs + sum ys
unfolding sum
sum_append [] ys = omega arith
sum_append (x ∷ xs) ys = omega (arith, sum_append xs ys)

pub sum_none : sum [] ≡ 0
unfolding sum
sum_none = refl

pub sum_one : (c : ℕ) → sum (c ∷ []) ≡ c
unfolding sum
sum_one c = omega arith

pub sum_cons : (c : ℕ) (cs : List ℕ) → sum (c ∷ cs) ≡ c + sum cs
unfolding sum
sum_cons c cs = refl

-- ---- the sums of all stretches
module _ (k : ℕ) where
  pub sums_short : (cs : List ℕ) → length cs < k → sums k cs ≡ []
  unfolding sums
  sums_short [] h = refl
  sums_short (c ∷ cs) h = choose_false _ _ (lt-leb k (length (c ∷ cs)) h)

  sums_none : sums k [] ≡ []
  unfolding sums
  sums_none = refl

  sums_long : (c : ℕ) (cs : List ℕ) → k ≤ length (c ∷ cs) → sums k (c ∷ cs) ≡ sum (take k (c ∷ cs)) ∷ sums k cs
  unfolding sums
  sums_long c cs h = choose_true _ _ (le-leb k (length (c ∷ cs)) h)

  -- how many there are, and each of them
  pub sums_length : 0 < k → (cs : List ℕ) → length (sums k cs) ≡ length cs + 1 - k
  sums_length h [] = ap length sums_none ∙ (let z : 0 ≡ 0 + 1 - k = omega arith in z)
  sums_length h (c ∷ cs) = by (sums_length h cs) (leb k (length (c ∷ cs))) refl
    where
      by : length (sums k cs) ≡ length cs + 1 - k → (t : Bool) → leb k (length (c ∷ cs)) ≡ t → length (sums k (c ∷ cs)) ≡ length (c ∷ cs) + 1 - k
      by e true t =
          let l : k ≤ length (c ∷ cs) = leb-true _ _ t in
          omega (arith, ap length (sums_long c cs l))
      by e false t =
          let l : length (c ∷ cs) < k = leb-false _ _ t in
          omega (arith, ap length (sums_short (c ∷ cs) l))

  pub sums_at : 0 < k → (i : ℕ) (cs : List ℕ) → i + k ≤ length cs → get_or (sums k cs) i 0 ≡ sum (take k (drop i cs))
  sums_at h i [] l = absurd (omega arith)
  sums_at h zero (c ∷ cs) l = ap (λ (t : List ℕ). get_or t 0 0) (sums_long c cs (omega arith))
  sums_at h (suc i) (c ∷ cs) l = ap (λ (t : List ℕ). get_or t (suc i) 0) (sums_long c cs (omega arith)) ∙ sums_at h i cs (omega arith)

  -- a stretch, and what follows it
  pub sums_front : (w cs : List ℕ) → length w ≡ k → 0 < k → sums k (w ++ cs) ≡ sum w ∷ sums k (drop 1 w ++ cs)
  sums_front [] cs e h = absurd (omega (arith, e))
  sums_front (x ∷ w) cs e h =
      sums_long x (w ++ cs) (omega (arith, e, length-append w cs))
      ∙ ap (λ (t : List ℕ). sum t ∷ sums k (w ++ cs)) (take_at (x ∷ w) cs k e)

  -- without the first j stretches
  pub sums_drop : (j : ℕ) (cs : List ℕ) → drop j (sums k cs) ≡ sums k (drop j cs)
  sums_drop zero cs = refl
  sums_drop (suc j) [] = ap (drop (suc j)) sums_none ∙ sym sums_none
  sums_drop (suc j) (c ∷ cs) = by (sums_drop j cs) (leb k (length (c ∷ cs))) refl
    where
      by : drop j (sums k cs) ≡ sums k (drop j cs) → (t : Bool) → leb k (length (c ∷ cs)) ≡ t → drop (suc j) (sums k (c ∷ cs)) ≡ sums k (drop j cs)
      by e true t = ap (drop (suc j)) (sums_long c cs (leb-true _ _ t)) ∙ e
      by e false t =
          let h : length (c ∷ cs) < k = leb-false _ _ t in
          ap (drop (suc j)) (sums_short (c ∷ cs) h) ∙ sym (ap (drop j) (sums_short cs (omega arith)) ∙ drop-nil j) ∙ e

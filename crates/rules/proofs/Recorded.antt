-- The first n of a list: the tests over them, and what these say of each; and one more recorded. Assumes nothing.
use mathlib.Core.Path.{◌≡◌, refl, sym, ap, ◌∙◌, subst}
use mathlib.Core.Bool.{Bool, true, false, not}
use mathlib.Core.List.{List}
use mathlib.Core.Logic.{inl, inr, ⊎_elim}
use Prim.Native.Nat.{ℕ, zero, suc, ◌+◌, ◌<◌}
use native.Mathlib.Nat.{eq-or-lt_of_le, le_of_suc-le-suc}
use native.Mathlib.Omega.{arith}
use borrow.Author.Count.{below_more}
use borrow.Author.Tests.{eqb-true, eq-eqb, ltb-true, lt-ltb, not-true}
use lib.Dec.{eqb, ltb}
use lib.ListN.{length, get_or, set}
use lib.Seq.{get_or-set_same, get_or-set_other}
use Rattle.base.proofs.Choosing.{and_left, and_right, and_true, or_first, or_second, or_cases}
use Rattle.base.proofs.Choosing.{never}
use Rattle.rules.specs.Sources.{holds, distinct, below24}
use Rattle.rules.specs.State.{nobody}
use Rattle.rules.proofs.Parts.{Sources, LastIs}

-- below n + 1 is below n, or n
pub last_or : {P : Type 0} (n i : ℕ) → i < suc n → (i ≡ n → P) → (i < n → P) → P
last_or n i h f g = ⊎_elim f g (eq-or-lt_of_le (le_of_suc-le-suc h))

not_no : (b : Bool) → b ≡ false → not b ≡ true
not_no b e = ap not e

-- ---- one of them is x
pub holds_at : (l : List ℕ) (n x i : ℕ) → i < n → get_or l i 0 ≡ x → holds l n x ≡ true
unfolding holds
holds_at l zero x i h e = absurd (omega arith)
holds_at l (suc n) x i h e =
    last_or n i h
    (λ p. or_second (holds l n x) (eqb (get_or l n 0) x) (eq-eqb (get_or l n 0) x (subst (λ (k : ℕ). get_or l k 0 ≡ x) p e)))
    (λ p. or_first (holds l n x) (eqb (get_or l n 0) x) (holds_at l n x i p e))

pub holds_none : (l : List ℕ) (n x : ℕ) → holds l n x ≡ false → (i : ℕ) → i < n → get_or l i 0 ≡ x → ⊥
holds_none l n x e i h p = never (sym e ∙ holds_at l n x i h p)

-- which one
pub holds_where : (l : List ℕ) (n x : ℕ) → holds l n x ≡ true → (i : ℕ) × (i < n) × (get_or l i 0 ≡ x)
unfolding holds
holds_where l zero x e = never e
holds_where l (suc n) x e =
    or_cases (holds l n x) (eqb (get_or l n 0) x) e
    (λ p. let w = holds_where l n x p in (w.0, omega (arith, w.1), w.2))
    (λ p. (n, omega arith, eqb-true (get_or l n 0) x p))

none_holds : (l : List ℕ) (n x : ℕ) → ((i : ℕ) → i < n → get_or l i 0 ≡ x → ⊥) → holds l n x ≡ false
none_holds l n x f = of (holds l n x) refl
  where
    of : (b : Bool) → holds l n x ≡ b → b ≡ false
    of true e = let w = holds_where l n x e in absurd (f w.0 w.1 w.2)
    of false e = refl

-- of none
pub holds_empty : (l : List ℕ) (n x : ℕ) → n ≡ 0 → holds l n x ≡ false
holds_empty l n x e = none_holds l n x (λ i h. absurd (omega arith))

-- ---- they are distinct
pub distinct_each : (l : List ℕ) (n : ℕ) → distinct l n ≡ true → (i j : ℕ) → i < j → j < n → get_or l i 0 ≡ get_or l j 0 → ⊥
unfolding distinct
distinct_each l zero e i j p q s = absurd (omega arith)
distinct_each l (suc n) e i j p q s =
    last_or n j q
    (λ h. holds_none l n (get_or l n 0) (not-true _ (and_right (distinct l n) (not (holds l n (get_or l n 0))) e)) i (omega arith)
    (subst (λ (k : ℕ). get_or l i 0 ≡ get_or l k 0) h s))
    (λ h. distinct_each l n (and_left (distinct l n) (not (holds l n (get_or l n 0))) e) i j p h s)

pub each_distinct : (l : List ℕ) (n : ℕ) → ((i j : ℕ) → i < j → j < n → get_or l i 0 ≡ get_or l j 0 → ⊥) → distinct l n ≡ true
unfolding distinct
each_distinct l zero f = refl
each_distinct l (suc n) f =
    and_true (distinct l n) (not (holds l n (get_or l n 0)))
    (each_distinct l n (λ i j p q. f i j p (omega arith)))
    (not_no (holds l n (get_or l n 0)) (none_holds l n (get_or l n 0) (λ i p. f i n p (omega arith))))

-- ---- each is below FFFFFFh
pub below_each : (l : List ℕ) (n : ℕ) → below24 l n ≡ true → (i : ℕ) → i < n → get_or l i 0 < nobody
unfolding below24
below_each l zero e i h = absurd (omega arith)
below_each l (suc n) e i h =
    last_or n i h
    (λ p. subst (λ (k : ℕ). get_or l k 0 < nobody) (sym p) (ltb-true (get_or l n 0) nobody (and_right (below24 l n) (ltb (get_or l n 0) nobody) e)))
    (λ p. below_each l n (and_left (below24 l n) (ltb (get_or l n 0) nobody) e) i p)

pub each_below : (l : List ℕ) (n : ℕ) → ((i : ℕ) → i < n → get_or l i 0 < nobody) → below24 l n ≡ true
unfolding below24
each_below l zero f = refl
each_below l (suc n) f =
    and_true (below24 l n) (ltb (get_or l n 0) nobody) (each_below l n (λ i p. f i (omega arith))) (lt-ltb (get_or l n 0) nobody (f n (omega arith)))

-- ---- one more, behind them
module _ (l : List ℕ) (n x : ℕ) (room : n < length l) where
  more : List ℕ
  more = set l n x

  earlier : (i : ℕ) → i < n → get_or more i 0 ≡ get_or l i 0
  unfolding more
  earlier i h = get_or-set_other l n i x 0 (λ e. omega arith)

  newest : get_or more n 0 ≡ x
  unfolding more
  newest = get_or-set_same l n x 0 room

  pub more_holds : (y : ℕ) → holds l n y ≡ true → holds (set l n x) (n + 1) y ≡ true
  unfolding more
  more_holds y e =
      let w = holds_where l n y e in
      holds_at (set l n x) (n + 1) y w.0 (omega (arith, w.1)) (earlier w.0 w.1 ∙ w.2)

  pub more_sources : n < 8 → x < nobody → holds l n x ≡ false → Sources l n → Sources (set l n x) (n + 1)
  unfolding more
  more_sources few b new s = record {
    at_most_8 = omega arith;
    all_differ = λ i j p q e. last_or n j (omega arith)
        (λ h. holds_none l n x new i (omega arith) (sym (earlier i (omega arith)) ∙ e ∙ ap (λ (k : ℕ). get_or more k 0) h ∙ newest))
        (λ h. s.all_differ i j p h (sym (earlier i (omega arith)) ∙ e ∙ earlier j h));
    all_below = below_more (λ i. get_or more i 0 < nobody) n (λ i h. rw (earlier i h) (s.all_below i h)) (rw newest b);
  }

  pub more_last : (last heard : ℕ) → LastIs l n last heard → LastIs (set l n x) (n + 1) last heard
  more_last last heard = ⊎_elim (λ e. inl (more_holds last e)) (λ p. inr p)

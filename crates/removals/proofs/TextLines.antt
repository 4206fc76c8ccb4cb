-- Laws of the lines of a text in memory: the first, and those after it. Assumes nothing.
use mathlib.Core.Bool.{Bool, true, false}
use mathlib.Core.List.{List, [], ◌∷◌}
use mathlib.Core.Path.{◌≡◌, refl, sym, ap, ◌∙◌}
use Prim.Native.Nat.{ℕ, zero, suc, ◌+◌, ◌≤◌, ◌<◌}
use native.Mathlib.Omega.{arith}
use borrow.Author.Tests.{eq-eqb, ne_eqb, eqb-true, eqb-false}
use lib.Dec.{eqb}
use lib.ListN.{length, take, drop}
use Rattle.console.specs.Lines.{onto, lines_of}
use Rattle.console.proofs.LinesLaws.{lines_line, lines_none}
use Rattle.std.specs.Prelude.{Some, None}
use Rattle.std.specs.List.{position}
use Rattle.std.proofs.lemmas.List.Quantifiers.{position-Some}
use Rattle.text.specs.Lines.{is_end, before_end, after_end}
use Rattle.text.proofs.LineLaws.{end_other, end_lf, found_at, found_none, goes_on_so}

-- ---- a character is an LF or not
by_lf : {P : Type 0} (c : ℕ) → (c ≡ 0x0A → P) → ((c ≡ 0x0A → ⊥) → P) → P
by_lf {P} c f g = by (eqb c 0x0A) refl
  where
    by : (t : Bool) → eqb c 0x0A ≡ t → P
    by true e = f (eqb-true _ _ e)
    by false e = g (eqb-false _ _ e)

-- ---- the first line, and the others, which come after its LF
lines_other : (c : ℕ) (cs : List ℕ) → (c ≡ 0x0A → ⊥) → lines_of (c ∷ cs) ≡ onto c (lines_of cs)
unfolding lines_of
lines_other c cs n = simp (ne_eqb _ _ n)

after_lf : (c : ℕ) (cs : List ℕ) → c ≡ 0x0A → after_end (c ∷ cs) ≡ cs
unfolding after_end
after_lf c cs e = simp (eq-eqb _ _ e)

after_other : (c : ℕ) (cs : List ℕ) → (c ≡ 0x0A → ⊥) → after_end (c ∷ cs) ≡ after_end cs
unfolding after_end
after_other c cs n = simp (ne_eqb _ _ n)

abbrev FirstLine : List ℕ → Type 0
FirstLine s = lines_of s ≡ before_end s ∷ lines_of (after_end s)

first_empty : (c : ℕ) (s : List ℕ) → c ≡ 0x0A → FirstLine (c ∷ s)
first_empty c s e = rw (end_lf c s e, after_lf c s e) (ap (λ (x : ℕ). lines_of (x ∷ s)) e ∙ lines_line [] s tt)

first_last : (c : ℕ) → (c ≡ 0x0A → ⊥) → FirstLine (c ∷ [])
unfolding before_end after_end
first_last c n =
    rw (end_other c [] n, after_other c [] n)
    (lines_other c [] n ∙ ap (onto c) lines_none ∙ sym (ap (λ (ls : List (List ℕ)). (c ∷ []) ∷ ls) lines_none))

first_more : (c d : ℕ) (s : List ℕ) → (c ≡ 0x0A → ⊥) → FirstLine (d ∷ s) → FirstLine (c ∷ d ∷ s)
first_more c d s n r = rw (end_other c (d ∷ s) n, after_other c (d ∷ s) n) (lines_other c (d ∷ s) n ∙ ap (onto c) r)

first_line : (c : ℕ) (s : List ℕ) → FirstLine (c ∷ s)
first_line c [] = by_lf c (λ e. first_empty c [] e) (λ n. first_last c n)
first_line c (d ∷ s) = by_lf c (λ e. first_empty c (d ∷ s) e) (λ n. first_more c d s n (first_line d s))

pub next_lines : (s : List ℕ) → (length s ≡ 0 → ⊥) → lines_of s ≡ before_end s ∷ lines_of (after_end s)
next_lines [] h = absurd (h refl)
next_lines (c ∷ s) h = first_line c s

-- none is left of an empty text
pub no_lines : (s : List ℕ) → length s ≡ 0 → lines_of s ≡ []
no_lines [] h = lines_none
no_lines (c ∷ s) h = absurd (omega arith)

-- ---- what follows a line is shorter
after_most : (s : List ℕ) → length (after_end s) ≤ length s
unfolding after_end
after_most [] = omega arith
after_most (c ∷ s) = by_lf c (λ e. rw (after_lf c s e) (omega arith)) (λ n. rw (after_other c s n) (omega (arith, after_most s)))

pub after_less : (s : List ℕ) → (length s ≡ 0 → ⊥) → length (after_end s) < length s
after_less [] h = absurd (h refl)
after_less (c ∷ s) h = by_lf c (λ e. rw (after_lf c s e) (omega arith)) (λ n. rw (after_other c s n) (omega (arith, after_most s)))

-- ---- a text has no more lines than characters
most_within : (n : ℕ) (s : List ℕ) → length s ≤ n → length (lines_of s) ≤ length s
most_within n [] h = omega (arith, ap length lines_none)
most_within zero (c ∷ s) h = absurd (omega arith)
most_within (suc n) (c ∷ s) h =
    let k = after_less (c ∷ s) (λ e. absurd (omega (arith, e))) in
    omega (arith, ap length (first_line c s), k, most_within n (after_end (c ∷ s)) (omega arith))

pub lines_most : (s : List ℕ) → length (lines_of s) ≤ length s
lines_most s = most_within (length s) s (omega arith)

-- ---- what the index of the first LF says
module _ (s : List ℕ) (n : ℕ) (e : Some n ≡ position is_end s) where
  pub found_within : n < length s
  found_within = (position-Some is_end s n 0 (sym e)).0

  pub found_line : take n s ≡ before_end s
  found_line = (found_at s n e).front

  pub found_rest : drop (n + 1) s ≡ after_end s
  found_rest = (found_at s n e).behind

module _ (s : List ℕ) (e : None ≡ position is_end s) where
  pub none_line : s ≡ before_end s
  none_line = sym (goes_on_so s (found_none s e)).0

  pub none_rest : [] ≡ after_end s
  none_rest = sym (goes_on_so s (found_none s e)).1

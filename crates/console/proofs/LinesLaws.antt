-- Laws of lines: characters with no LF are one line. Assumes nothing.
use mathlib.Core.Path.{◌≡◌, refl, ap, ◌∙◌}
use mathlib.Core.Bool.{Bool, true, false}
use mathlib.Core.List.{List, [], ◌∷◌, ◌++◌}
use Prim.Native.Nat.{ℕ}
use lib.Dec.{eqb}
use borrow.Author.Tests.{ne_eqb, eqb-true, eqb-false}
use Rattle.text.specs.Lines.{before_end}
use Rattle.text.proofs.LineLaws.{end_other, end_lf}
use Rattle.console.specs.Lines.{onto, lines_of, Free}

-- ---- characters with no LF
pub free_append : (xs ys : List ℕ) → Free xs → Free ys → Free (xs ++ ys)
free_append [] ys f g = g
free_append (x ∷ xs) ys f g = (f.0, free_append xs ys f.1 g)

pub free_before : (s : List ℕ) → Free (before_end s)
unfolding before_end
free_before [] = tt
free_before (c ∷ s) = by (free_before s) (eqb c 0x0A) refl
  where
    by : Free (before_end s) → (t : Bool) → eqb c 0x0A ≡ t → Free (before_end (c ∷ s))
    by f true e = rw (end_lf c s (eqb-true _ _ e)) tt
    by f false e = rw (end_other c s (eqb-false _ _ e)) (eqb-false _ _ e, f)

lines_other : (c : ℕ) (cs : List ℕ) → (c ≡ 0x0A → ⊥) → lines_of (c ∷ cs) ≡ onto c (lines_of cs)
unfolding lines_of
lines_other c cs n = simp (ne_eqb _ _ n)

-- with an LF behind them they are the first line
pub lines_line : (cs xs : List ℕ) → Free cs → lines_of (cs ++ (0x0A ∷ xs)) ≡ cs ∷ lines_of xs
unfolding lines_of
lines_line [] xs f = refl
lines_line (c ∷ cs) xs f = lines_other c (cs ++ (0x0A ∷ xs)) f.0 ∙ ap (onto c) (lines_line cs xs f.1)

-- without it the last, if there are any
pub lines_last : (c : ℕ) (cs : List ℕ) → Free (c ∷ cs) → lines_of (c ∷ cs) ≡ (c ∷ cs) ∷ []
unfolding lines_of
lines_last c [] f = lines_other c [] f.0
lines_last c (d ∷ cs) f = lines_other c (d ∷ cs) f.0 ∙ ap (onto c) (lines_last d cs f.1)

pub lines_none : lines_of [] ≡ []
unfolding lines_of
lines_none = refl

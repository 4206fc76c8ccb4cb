-- Laws of a line: when it is a count, what a count can be, and what is shown of a line. Assumes nothing.
use mathlib.Core.Bool.{true, false}
use mathlib.Core.List.{List, [], ◌∷◌}
use mathlib.Core.Path.{◌≡◌, refl, sym, ap, ◌∙◌}
use Prim.Native.Nat.{ℕ, ◌≤◌, ◌<◌}
use native.Mathlib.Omega.{arith}
use borrow.Author.Tests.{eqb-true, lt-ltb, le-ltb}
use lib.Dec.{eqb, ltb}
use lib.ListN.{length, get_or}
use Rattle.std.specs.Prelude.{None, Some}
use Rattle.std.specs.declared.option.Option.{Option}
use Rattle.base.proofs.Choosing.{choose_true, choose_false, by_test, never}
use Rattle.text.specs.Decimal.{decimal_of}
use Rattle.text.proofs.DecimalBothWays.{read_number}
use Rattle.console.specs.Showing.{shown}
use Rattle.console.proofs.ShowingLaws.{same_shown}
use Rattle.stretches.specs.Stretches.{most_count}
use Rattle.worst.specs.Journeys.{longest, is_zero, count_of}

-- ---- the digit 0 alone
pub zero_other : (cs : List ℕ) → (length cs ≡ 1 → ⊥) → false ≡ is_zero cs
zero_other [] h = refl
zero_other (c ∷ []) h = absurd (h refl)
zero_other (c ∷ d ∷ cs) h = refl

pub zero_one : (cs : List ℕ) → length cs ≡ 1 → eqb (get_or cs 0 0) 0x30 ≡ is_zero cs
zero_one [] h = absurd (omega arith)
zero_one (c ∷ []) h = refl
zero_one (c ∷ d ∷ cs) h = absurd (omega arith)

pub zero_alone : (cs : List ℕ) → is_zero cs ≡ true → cs ≡ 0x30 ∷ []
zero_alone [] e = never e
zero_alone (c ∷ []) e = ap (λ (x : ℕ). x ∷ []) (eqb-true c 0x30 e)
zero_alone (c ∷ d ∷ cs) e = never e

-- ---- what a count can be
pub number_small : (n : ℕ) (cs : List ℕ) → Some n ≡ decimal_of most_count cs → n ≤ most_count
number_small n cs e = (read_number most_count n cs (sym e)).2

abbrev pub Small : Option ℕ → Type 0
Small (Some c) = c ≤ most_count
Small None = Unit

from_small : (cs : List ℕ) (d : Option ℕ) → decimal_of most_count cs ≡ d → Small d
from_small cs (Some n) e = number_small n cs (sym e)
from_small cs None e = tt

pub count_small : (cs : List ℕ) → Small (count_of cs)
unfolding count_of
count_small cs =
    by_test Small (ltb longest (length cs)) (λ e. tt)
    (λ e. by_test Small (is_zero cs) (λ f. omega arith) (λ f. from_small cs (decimal_of most_count cs) refl))

-- ---- when a line is a count
module _ (cs : List ℕ) where
  pub count_long : longest < length cs → None ≡ count_of cs
  unfolding count_of
  count_long h = sym (choose_true _ _ (lt-ltb longest (length cs) h))

  pub count_zero : length cs ≤ longest → is_zero cs ≡ true → Some 0 ≡ count_of cs
  unfolding count_of
  count_zero h z = sym (choose_false _ _ (le-ltb longest (length cs) h) ∙ choose_true _ _ z)

  pub count_other : length cs ≤ longest → is_zero cs ≡ false → decimal_of most_count cs ≡ count_of cs
  unfolding count_of
  count_other h z = sym (choose_false _ _ (le-ltb longest (length cs) h) ∙ choose_false _ _ z)

-- a line is read as what is shown of it, however long it is
pub count_shown : (line cs : List ℕ) → line ≡ shown cs → count_of line ≡ count_of cs
count_shown = same_shown count_of None longest (omega arith) (λ cs h. sym (count_long cs h))

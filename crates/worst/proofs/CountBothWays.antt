-- A line is read as a count exactly if it is that count as it is put down in decimal: 0 to 255, no leading zeros. Assumes nothing.
use mathlib.Core.Bool.{Bool, true, false}
use mathlib.Core.List.{List, [], ◌∷◌}
use mathlib.Core.Path.{◌≡◌, refl, sym, ap, ◌∙◌}
use Prim.Native.Nat.{ℕ, ◌≤◌, ◌<◌}
use native.Mathlib.Omega.{arith}
use borrow.Author.Tests.{eqb-true, eqb-false, ltb-true, ltb-false}
use lib.Dec.{eqb, ltb}
use lib.ListN.{length, get_or}
use Rattle.std.specs.Prelude.{None, Some}
use Rattle.base.proofs.Choosing.{absurdly}
use Rattle.text.specs.Decimal.{decimal_of, decimal_text}
use Rattle.text.proofs.DecimalBothWays.{number_back, number_only, read_number, text_few}
use Rattle.text.proofs.DecimalLaws.{text_zero}
use Rattle.stretches.specs.Stretches.{most_count}
use Rattle.worst.specs.Journeys.{longest, is_zero, count_of}
use Rattle.worst.proofs.CountLaws.{zero_alone, count_small, count_long, count_zero, count_other}

-- THE LAWS: what is put down is read back
pub count_back : (n : ℕ) → n ≤ most_count → count_of (decimal_text n) ≡ Some n
count_back n h = by (eqb n 0) refl
  where
    not_zero : decimal_of most_count (decimal_text n) ≡ Some n → (t : Bool) → is_zero (decimal_text n) ≡ t → is_zero (decimal_text n) ≡ false
    not_zero e true t = absurd ((read_number most_count n (decimal_text n) e).0 (ap (λ (cs : List ℕ). get_or cs 0 0x30) (zero_alone (decimal_text n) t)))
    not_zero e false t = t

    by : (t : Bool) → eqb n 0 ≡ t → count_of (decimal_text n) ≡ Some n
    by true t =
        let q : n ≡ 0 = eqb-true n 0 t in
        ap count_of (sym (text_zero n q)) ∙ sym (count_zero (0x30 ∷ []) (omega arith) refl) ∙ ap Some (sym q)
    by false t =
        let z : (n ≡ 0 → ⊥) = eqb-false n 0 t in
        let p : 0 < n = omega arith in
        let e = number_back most_count n p h (omega arith) in
        sym (count_other (decimal_text n) (text_few longest n (omega arith) (omega arith)) (not_zero e (is_zero (decimal_text n)) refl)) ∙ e

-- and nothing else is read as that count
pub count_only : (n : ℕ) (cs : List ℕ) → count_of cs ≡ Some n → (n ≤ most_count) × (cs ≡ decimal_text n)
count_only n cs e = (rw e at (count_small cs), by (ltb longest (length cs)) refl (is_zero cs) refl)
  where
    by : (t : Bool) → ltb longest (length cs) ≡ t → (z : Bool) → is_zero cs ≡ z → cs ≡ decimal_text n
    by true t z q = let f : None ≡ Some n = count_long cs (ltb-true _ _ t) ∙ e in absurdly (cc)
    by false t true q =
        let f : Some 0 ≡ Some n = count_zero cs (ltb-false _ _ t) q ∙ e in
        zero_alone cs q ∙ text_zero n (let g : n ≡ 0 = cc in g)
    by false t false q =
        let l : length cs ≤ longest = ltb-false _ _ t in
        number_only most_count n cs (omega arith) (count_other cs l q ∙ e)

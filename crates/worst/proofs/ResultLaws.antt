-- Laws of what is printed: if all lines were counts, and for a bad one; and how long it is. Assumes nothing.
use mathlib.Core.Path.{◌≡◌, sym, ◌∙◌}
use mathlib.Core.Bool.{Bool, true, false}
use mathlib.Core.List.{List, [], ◌∷◌, ◌++◌}
use Prim.Native.Nat.{ℕ, ◌+◌, ◌≤◌, ◌<◌}
use native.Mathlib.Omega.{arith}
use borrow.Author.Tests.{lt-ltb, le-ltb}
use lib.ListN.{length, length-append}
use Rattle.base.specs.Choice.{choose}
use Rattle.base.proofs.Choosing.{choose_true, choose_false}
use Rattle.text.specs.BadLines.{bad_text}
use Rattle.text.proofs.BadLineLaws.{bad_length}
use Rattle.text.specs.Decimal.{decimal_text}
use Rattle.text.proofs.DecimalLaws.{decimal_length}
use Rattle.text.specs.Texts.{with_piece}
use Rattle.text.proofs.TextLaws.{piece_fits}
use Rattle.stretches.specs.Stretches.{stretch, Worst}
use Rattle.stretches.specs.Rolling.{worst_so_far}
use Rattle.stretches.specs.declared.Tally.{Tally}
use Rattle.worst.specs.Journeys.{sum_text, short_text}
use Rattle.worst.specs.Reading.{result_text}
use Rattle.worst.specs.declared.reading.Work.{Work}
use Rattle.worst.specs.declared.reading.Work.TheVariants.{Counting, Long, Bad}

pub short_is : (p : Tally) → p.lines < stretch → result_text Counting p ≡ short_text
unfolding result_text
short_is p h = choose_true _ _ (lt-ltb p.lines stretch h)

pub counts_is : (p : Tally) → stretch ≤ p.lines → result_text Counting p ≡ sum_text (worst_so_far p)
unfolding result_text
counts_is p h = choose_false _ _ (le-ltb p.lines stretch h)

-- a bad line's text fits
pub bad_put : (page new : List ℕ) (n : ℕ) → length page + 64 ≤ 16384 → new ≡ with_piece 16384 page (bad_text n) → new ≡ page ++ bad_text n
bad_put page new n h e = e ∙ sym (piece_fits 16384 page (bad_text n) (omega (arith, bad_length n)))

-- ---- how long it is
sum_length : (w : Worst) → length (sum_text w) ≤ 42
unfolding sum_text
sum_length w =
    let f : List ℕ = decimal_text w.sum in
    let g : List ℕ = decimal_text w.first in
    omega (
      arith,
      decimal_length w.sum,
      decimal_length w.first,
      length-append f (0x20 ∷ []),
      length-append (f ++ (0x20 ∷ [])) g,
      length-append ((f ++ (0x20 ∷ [])) ++ g) (0x0A ∷ []),
    )

counts_length : (t : Bool) (w : Worst) → length (choose t short_text (sum_text w)) ≤ 64
counts_length true w = omega arith
counts_length false w = omega (arith, sum_length w)

pub result_length : (w : Work) (p : Tally) → length (result_text w p) ≤ 64
unfolding result_text
result_length Counting p = counts_length _ (worst_so_far p)
result_length Long p = omega arith
result_length Bad p = omega (arith, bad_length (p.lines + 1))

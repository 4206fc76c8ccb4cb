-- How long what is printed is. Assumes nothing.
use mathlib.Core.List.{[], ◌∷◌}
use Prim.Native.Nat.{ℕ, ◌≤◌}
use native.Mathlib.Omega.{arith}
use lib.ListN.{length, length-append}
use Rattle.std.specs.Prelude.{Some, None, Ok, Err}
use Rattle.text.specs.Decimal.{decimal_text}
use Rattle.text.proofs.DecimalLaws.{decimal_length}
use Rattle.removals.specs.Removals.{Which}
use Rattle.removals.specs.declared.searching.NoSearch.TheVariants.{Long, Fallback}
use Rattle.which.specs.Printing.{number_text, which_text}

pub which_length : (w : Which) → length (which_text w) ≤ 32
unfolding number_text
which_length (Err Long) = omega arith
which_length (Err Fallback) = omega arith
which_length (Ok (Some n)) = omega (arith, decimal_length n, length-append (decimal_text n) (0x0A ∷ []))
which_length (Ok None) = omega arith

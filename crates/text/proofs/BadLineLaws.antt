-- How long a bad line's text is. Assumes nothing.
use mathlib.Core.List.{[], ◌∷◌}
use Prim.Native.Nat.{ℕ, ◌≤◌}
use native.Mathlib.Omega.{arith}
use lib.ListN.{length, length-append}
use Rattle.text.specs.BadLines.{bad_text}
use Rattle.text.specs.Decimal.{decimal_text}
use Rattle.text.proofs.DecimalLaws.{decimal_length}

pub bad_length : (n : ℕ) → length (bad_text n) ≤ 25
unfolding bad_text
bad_length n = omega (arith, decimal_length n, length-append (decimal_text n) (0x20 ∷ 0x42 ∷ 0x41 ∷ 0x44 ∷ 0x0A ∷ []))

-- A width asked for, and the width read: at most 8. Assumes nothing.
use mathlib.Core.Path.{◌≡◌, refl}
use mathlib.Core.Bool.{Bool, true, false}
use Prim.Native.Nat.{ℕ, ◌≤◌, ◌<◌}
use native.Mathlib.Omega.{arith}
use borrow.Author.Tests.{lt-ltb, le-ltb, ltb-true}
use lib.Dec.{ltb}
use Rattle.base.specs.Choice.{choose}
use Rattle.fields.specs.Fields.{width8}

pub width_small : (w : ℕ) → w < 8 → w ≡ width8 w
width_small w h = rw (lt-ltb w 8 h)

pub width_large : (w : ℕ) → 8 ≤ w → 8 ≡ width8 w
width_large w h = rw (le-ltb w 8 h)

pub width_most : (w : ℕ) → width8 w ≤ 8
width_most w = by_test (ltb w 8) refl
  where
    by_test : (b : Bool) → ltb w 8 ≡ b → choose b w 8 ≤ 8
    by_test true e = omega (arith, ltb-true w 8 e)
    by_test false e = omega arith

-- Document 02, request 9: "a remainder below the divisor, so that quotient times divisor plus remainder gives the dividend back". For
-- every number of bytes and every TCYC that is not 0. Assumes nothing.
use mathlib.Core.Path.{◌≡◌}
use Prim.Native.Nat.{ℕ, ◌+◌, ◌*◌, ◌<◌}
use native.Mathlib.Nat.{mod-lt, div-add-mod'}
use native.Mathlib.Omega.{arith}
use Rattle.load_text.specs.Shares.{dividend, divisor, quotient, remainder}

-- the divisor is not 0
pub divisor_some : (t : ℕ) → 0 < t → 0 < divisor t
divisor_some t h = omega arith

pub remainder_below : (bytes t : ℕ) → 0 < t → remainder bytes t < divisor t
unfolding remainder
remainder_below bytes t h = omega (arith, mod-lt (dividend bytes) (divisor_some t h))

pub dividend_back : (bytes t : ℕ) → quotient bytes t * divisor t + remainder bytes t ≡ dividend bytes
unfolding quotient remainder
dividend_back bytes t = div-add-mod' (dividend bytes) (divisor t)

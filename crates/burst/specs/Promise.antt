-- Which damage a 16-bit CRC detects, for every polynomial of a kind and so for the two of the bus; and where that ends.
-- OnTheLine states what this means for the FCS of a body on the line; for the safety CRC there is only what is stated
-- here, about the bytes it covers. Damage that makes or breaks a 7Dh or 7Eh on the line changes the length of what is
-- read, and is not covered. Assumes nothing.
use Rattle.std.specs.Prelude.{◌≡◌, List, [], ◌∷◌, ◌++◌, ℕ, ◌+◌, ◌*◌, ◌%◌, ◌^◌, ◌<◌, length}
use Rattle.std.specs.Int.Count.{ones}
use Rattle.base.specs.Bytes.{Bytes}
use Rattle.crc.specs.Crc.{crc_from, crc_of, Poly}
use Rattle.burst.specs.Damage.{Burst, flips}

-- the longest burst that is always detected, in bits
abbrev pub longest : ℕ
longest = 16

-- a polynomial of degree 16, written without its top term, whose constant term is 1
pub record WithConstant (p : ℕ) : Type 0 where
  pub terms : p < 2 ^ 16
  pub odd : p % 2 ≡ 1

-- a polynomial of degree 16, written without its top term, with an even number of terms, the top one included
pub record EvenTerms (p : ℕ) : Type 0 where
  pub terms : p < 2 ^ 16
  pub even : (1 + ones p) % 2 ≡ 0

-- bytes that end with the right CRC: the last two are the CRC of those before them, high byte first
pub record Checked (crc : List ℕ → ℕ) (bytes : List ℕ) : Type 0 where
  pub covered : List ℕ
  pub high : ℕ
  pub low : ℕ
  pub made : bytes ≡ covered ++ high ∷ low ∷ []
  pub right : crc covered ≡ high * 256 + low

-- A burst is detected: the CRC of the bytes stays the same only if nothing was changed; and bytes that end with the
-- right CRC still do so only if nothing was changed, wherever in them the burst lies.
pub record SeesBursts (crc : List ℕ → ℕ) : Type 0 where
  pub in_bytes : (i : ℕ) (sent got : List ℕ) → Bytes sent → Bytes got → Burst longest i sent got → crc sent ≡ crc got → sent ≡ got
  pub in_frame : (i : ℕ) (sent got : List ℕ) → Bytes sent → Bytes got → Burst longest i sent got → Checked crc sent → Checked crc got → sent ≡ got

-- An odd number of flipped bits is detected, wherever they are.
pub record SeesOdd (crc : List ℕ → ℕ) : Type 0 where
  pub in_bytes : (sent got : List ℕ) → Bytes sent → Bytes got → length sent ≡ length got → flips sent got % 2 ≡ 1 → crc sent ≡ crc got → ⊥
  pub in_frame : (sent got : List ℕ) → Bytes sent → Bytes got → length sent ≡ length got → flips sent got % 2 ≡ 1 → Checked crc sent → Checked crc got → ⊥

-- a burst of w bits that a CRC does not detect
pub record Missed (w : ℕ) (crc : List ℕ → ℕ) : Type 0 where
  pub i : ℕ
  pub sent : List ℕ
  pub got : List ℕ
  pub burst : Burst w i sent got
  pub changed : sent ≡ got → ⊥
  pub same : crc sent ≡ crc got

-- All that is promised: for every such polynomial, from any register, and for the two CRCs of the bus; and that each of
-- these two misses some burst that is one bit longer.
pub record Promised : Type 0 where
  pub bursts : (p c : ℕ) → WithConstant p → c < 2 ^ 16 → SeesBursts (crc_from p c)
  pub odd : (p c : ℕ) → EvenTerms p → c < 2 ^ 16 → SeesOdd (crc_from p c)
  pub bus_bursts : (poly : Poly) → SeesBursts (crc_of poly)
  pub bus_odd : (poly : Poly) → SeesOdd (crc_of poly)
  pub no_longer : (poly : Poly) → Missed (longest + 1) (crc_of poly)

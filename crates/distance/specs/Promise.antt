-- Two flipped bits: which 16-bit CRCs detect them, and over how many bits; the two of the bus; and where that ends. Assumes nothing.
use Rattle.std.specs.Prelude.{◌≡◌, true, List, ℕ, ◌+◌, ◌*◌, ◌≤◌, length}
use Rattle.base.specs.Bytes.{Bytes}
use Rattle.crc.specs.Crc.{crc_bits, crc_from, crc_of, Poly, Fcs, Safety}
use Rattle.burst.specs.Damage.{flips}
use Rattle.burst.specs.Promise.{WithConstant, Checked}
use Rattle.distance.specs.Powers.{no_return}

-- Two flipped bits in bytes of at most n bits are detected, wherever they are: the CRC changes; and bytes that end with the right
-- CRC no longer do so.
pub record SeesTwo (n : ℕ) (crc : List ℕ → ℕ) : Type 0 where
  pub in_bytes : (sent got : List ℕ) → Bytes sent → Bytes got → length sent ≡ length got → 8 * length sent ≤ n → flips sent got ≡ 2 → crc sent ≡ crc got → ⊥
  pub in_frame : (sent got : List ℕ) → Bytes sent → Bytes got → length sent ≡ length got → 8 * length sent ≤ n → flips sent got ≡ 2 → Checked crc sent → Checked crc got → ⊥

-- bits for which that holds: for the FCS the 272 bytes of the longest body; for the safety CRC, 18 bytes and no more
abbrev pub bits_seen : Poly → ℕ
bits_seen Fcs = 8 * 272
bits_seen Safety = 151

-- two flipped bits that a CRC does not detect, in bytes of n bits
pub record MissedTwo (n : ℕ) (crc : List ℕ → ℕ) : Type 0 where
  pub sent : List ℕ
  pub got : List ℕ
  pub sent_bytes : Bytes sent
  pub got_bytes : Bytes got
  pub long : length sent ≡ length got
  pub bits : 8 * length sent ≡ n
  pub two : flips sent got ≡ 2
  pub same : crc sent ≡ crc got

-- All that is promised: for every polynomial, from any register; and for the two CRCs of the bus. crc_bits p k 1 is x^k.
pub record Promised : Type 0 where
  -- no power of x up to n is 1: two flipped bits of n + 1 are detected
  pub two : (p c n : ℕ) → WithConstant p → no_return p n ≡ true → SeesTwo (n + 1) (crc_from p c)
  -- a power of x is 1: two bits as far apart are not, here the first and the last of n + 2 bytes
  pub missed : (p c n : ℕ) → crc_bits p (n * 8 + 15) 1 ≡ 1 → MissedTwo (n * 8 + 16) (crc_from p c)
  pub bus_two : (poly : Poly) → SeesTwo (bits_seen poly) (crc_of poly)
  pub fcs_limit : MissedTwo 32768 (crc_of Fcs)
  pub safety_limit : MissedTwo 152 (crc_of Safety)

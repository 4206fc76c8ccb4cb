-- STATUT's masks over all bytes: what each leaves of bits 7 and 6, and that it leaves a byte. Assumes nothing.
use mathlib.Core.Path.{◌≡◌}
use Prim.Native.Nat.{ℕ, ◌<◌}
use lib.Bits.{bit_and, bit_or, and_lt, or_lt}
use Rattle.base.proofs.AllBytes.{same_bytes}

-- bit 5, and bit 1, are others
pub bits_line : (x : ℕ) → x < 256 → bit_and (bit_or x 0x20) 0xC0 ≡ bit_and x 0xC0
bits_line = same_bytes (λ x. bit_and (bit_or x 0x20) 0xC0) (λ x. bit_and x 0xC0) tt

pub bits_sequence : (x : ℕ) → x < 256 → bit_and (bit_or x 0x02) 0xC0 ≡ bit_and x 0xC0
bits_sequence = same_bytes (λ x. bit_and (bit_or x 0x02) 0xC0) (λ x. bit_and x 0xC0) tt

-- bit 7 set, bit 7 cleared, bit 7 kept alone
pub bits_set : (x : ℕ) → x < 256 → bit_and (bit_or x 0x80) 0xC0 ≡ bit_or (bit_and x 0xC0) 0x80
bits_set = same_bytes (λ x. bit_and (bit_or x 0x80) 0xC0) (λ x. bit_or (bit_and x 0xC0) 0x80) tt

pub bits_cleared : (x : ℕ) → x < 256 → bit_and (bit_and x 0x7F) 0xC0 ≡ bit_and (bit_and x 0xC0) 0x7F
bits_cleared = same_bytes (λ x. bit_and (bit_and x 0x7F) 0xC0) (λ x. bit_and (bit_and x 0xC0) 0x7F) tt

pub bits_alone : (x : ℕ) → x < 256 → bit_and (bit_and x 0x80) 0xC0 ≡ bit_and (bit_and x 0xC0) 0x80
bits_alone = same_bytes (λ x. bit_and (bit_and x 0x80) 0xC0) (λ x. bit_and (bit_and x 0xC0) 0x80) tt

-- ---- bytes
pub or_byte : (x y : ℕ) → x < 256 → y < 256 → bit_or x y < 256
or_byte x y h k = or_lt 8 x y h k

pub and_byte : (x y : ℕ) → x < 256 → y < 256 → bit_and x y < 256
and_byte x y h k = and_lt 8 x y h k

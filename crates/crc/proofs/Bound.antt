-- The register stays below 2^16 if it starts there and the polynomial's terms are below it too, whatever the list
-- holds. Assumes nothing.
use mathlib.Core.List.{List, [], ◌∷◌}
use Prim.Native.Nat.{ℕ, zero, suc, ◌*◌, ◌%◌, ◌^◌, ◌<◌}
use native.Mathlib.Nat.{mod-lt}
use lib.Dec.{lit<}
use lib.Bits.{bit_xor, xor_lt}
use Rattle.base.proofs.Xor.{choose_lt}
use Rattle.crc.specs.Crc.{Poly, Fcs, Safety, poly_of, crc_start, top_bit, crc_bit, crc_bits, crc_byte, crc_from, crc_of}
use Rattle.crc.proofs.Linear.{top_lt}

module _ (p : ℕ) (terms : p < 2 ^ 16) where
  -- after a shift, whatever the register was
  pub bit_lt : (c : ℕ) → crc_bit p c < 2 ^ 16
  unfolding crc_bit
  bit_lt c = xor_lt 16 (c * 2 ^ 1 % 2 ^ 16) (top_bit c * p) (mod-lt (c * 2 ^ 1) (lit< tt)) (choose_lt (top_bit c) p (2 ^ 16) (top_lt c) terms)

  pub bits_lt : (n c : ℕ) → c < 2 ^ 16 → crc_bits p n c < 2 ^ 16
  unfolding crc_bits
  bits_lt zero c h = h
  bits_lt (suc n) c h = bit_lt (crc_bits p n c)

  pub byte_lt : (c b : ℕ) → crc_byte p c b < 2 ^ 16
  unfolding crc_byte crc_bits
  byte_lt c b = bit_lt (crc_bits p 7 (bit_xor c (b * 2 ^ 8)))

  pub from_lt : (c : ℕ) (xs : List ℕ) → c < 2 ^ 16 → crc_from p c xs < 2 ^ 16
  unfolding crc_from
  from_lt c [] h = h
  from_lt c (b ∷ bs) h = from_lt (crc_byte p c b) bs (byte_lt c b)

pub poly_lt : (poly : Poly) → poly_of poly < 2 ^ 16
poly_lt Fcs = lit< tt
poly_lt Safety = lit< tt

pub of_lt : (poly : Poly) (xs : List ℕ) → crc_of poly xs < 2 ^ 16
unfolding crc_of
of_lt poly xs = from_lt (poly_of poly) (poly_lt poly) crc_start xs (lit< tt)

-- The laws of the CRC for the two polynomials of the bus: each holds for every polynomial and is cited here for both. Assumes nothing.
use mathlib.Core.Path.{◌≡◌, refl}
use mathlib.Core.List.{List, ◌∷◌, ◌++◌, zip_with}
use Prim.Native.Nat.{ℕ, ◌*◌, ◌/◌, ◌%◌, ◌^◌, ◌<◌}
use lib.Bits.{bit_xor}
use lib.ListN.{length}
use Rattle.crc.specs.Crc.{Poly, poly_of, crc_start, crc_byte, crc_from, crc_of, from_append}
use Rattle.crc.proofs.Bound.{poly_lt, from_lt}
use Rattle.crc.proofs.Linear.{from_linear}
use Rattle.crc.proofs.Table.{byte_table}

module _ (poly : Poly) where
  -- bytes behind bytes: the CRC goes on from the register
  pub append : (xs ys : List ℕ) → crc_of poly (xs ++ ys) ≡ crc_from (poly_of poly) (crc_of poly xs) ys
  unfolding crc_of
  append xs ys = from_append (poly_of poly) crc_start xs ys

  -- one byte, and the bytes after it
  pub headed : (h : ℕ) (xs : List ℕ) → crc_from (poly_of poly) (crc_byte (poly_of poly) crc_start h) xs ≡ crc_of poly (h ∷ xs)
  unfolding crc_of crc_from
  headed h xs = refl

  -- linear: registers and lists of the same length are added bit by bit
  pub linear : (c d : ℕ) (xs ys : List ℕ) → length xs ≡ length ys → crc_from (poly_of poly) (bit_xor c d) (zip_with bit_xor xs ys) ≡ bit_xor (crc_from (poly_of poly) c xs) (crc_from (poly_of poly) d ys)
  linear = from_linear (poly_of poly)

  -- a byte's step: a shift by eight bits and an entry of the table
  pub by_table : (c b : ℕ) → c < 2 ^ 16 → bit_xor (c * 2 ^ 8 % 2 ^ 16) (crc_byte (poly_of poly) 0 (bit_xor (c / 2 ^ 8) b)) ≡ crc_byte (poly_of poly) c b
  by_table = byte_table (poly_of poly)

  -- a CRC fits 16 bits
  pub below : (c : ℕ) (xs : List ℕ) → c < 2 ^ 16 → crc_from (poly_of poly) c xs < 2 ^ 16
  below = from_lt (poly_of poly) (poly_lt poly)

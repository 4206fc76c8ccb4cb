-- Where detection ends, by counterexample: a longer burst, other polynomials, two flipped bits. Assumes nothing.
use mathlib.Core.Path.{◌≡◌, refl, sym, ap, ◌∙◌}
use mathlib.Core.List.{List, [], ◌∷◌, ◌++◌}
use Prim.Native.Nat.{ℕ, ◌+◌}
use native.Mathlib.Omega.{arith}
use lib.Count.{ones, ones_in}
use lib.ListN.{get_or, replicate}
use Rattle.base.proofs.BitList.{byte_bits, bits_of}
use Rattle.crc.specs.Crc.{top_bit, crc_bit, crc_bits, crc_byte, crc_from, crc_of, Poly, Fcs, Safety}
use Rattle.burst.specs.Damage.{Burst, flips}
use Rattle.burst.specs.Promise.{longest, Missed}
use Rattle.burst.proofs.Window.{after_drop}

abbrev zeros : List ℕ
zeros = 0x00 ∷ 0x00 ∷ 0x00 ∷ []

-- the 17 bits of the polynomial itself, its top term among them, added to three zeros; and the CRC that both have
abbrev added : Poly → List ℕ
added Fcs = 0x88 ∷ 0x10 ∷ 0x80 ∷ []
added Safety = 0xC8 ∷ 0x6C ∷ 0x80 ∷ []

abbrev value : Poly → ℕ
value Fcs = 0xCC9C
value Safety = 0x0145

crc_zeros : (poly : Poly) → crc_of poly zeros ≡ value poly
unfolding crc_of crc_from crc_byte crc_bits crc_bit top_bit
crc_zeros Fcs = refl
crc_zeros Safety = refl

crc_added : (poly : Poly) → crc_of poly (added poly) ≡ value poly
unfolding crc_of crc_from crc_byte crc_bits crc_bit top_bit
crc_added Fcs = refl
crc_added Safety = refl

added_burst : (poly : Poly) → Burst 17 0 zeros (added poly)
unfolding bits_of byte_bits
added_burst Fcs = record { long = refl; before = λ k h. absurd (omega arith); after = after_drop 17 zeros (added Fcs) refl }
added_burst Safety = record { long = refl; before = λ k h. absurd (omega arith); after = after_drop 17 zeros (added Safety) refl }

added_first : (poly : Poly) → 0 ≡ get_or (added poly) 0 0 → ⊥
added_first Fcs e = omega arith
added_first Safety e = omega arith

pub no_longer : (poly : Poly) → Missed (longest + 1) (crc_of poly)
no_longer poly =
    record {
      i = 0;
      sent = zeros;
      got = added poly;
      burst = added_burst poly;
      changed = λ e. added_first poly (ap (λ (l : List ℕ). get_or l 0 0) e);
      same = crc_zeros poly ∙ sym (crc_added poly);
    }

-- a polynomial whose constant term is 0: one flipped bit is not seen
no_constant : crc_from 0x0000 0xFFFF zeros ≡ crc_from 0x0000 0xFFFF (0x01 ∷ 0x00 ∷ 0x00 ∷ [])
unfolding crc_from crc_byte crc_bits crc_bit top_bit
no_constant = refl

-- a polynomial of three terms, x^16 + x + 1: three flipped bits are not seen
three_terms : crc_from 0x0003 0xFFFF zeros ≡ crc_from 0x0003 0xFFFF (0x80 ∷ 0x01 ∷ 0x80 ∷ [])
unfolding crc_from crc_byte crc_bits crc_bit top_bit
three_terms = refl

three_flips : flips zeros (0x80 ∷ 0x01 ∷ 0x80 ∷ []) ≡ 3
unfolding flips ones ones_in
three_flips = refl

-- two flipped bits that stand 151 apart, here the first and the last of 19 bytes: the safety CRC does not see them, since its polynomial
-- divides x^151 + 1
abbrev nineteen : ℕ → ℕ → List ℕ
nineteen a b = a ∷ replicate 17 0 ++ (b ∷ [])

crc_sent : crc_of Safety (nineteen 0x00 0x00) ≡ 0x6F27
unfolding crc_of crc_from crc_byte crc_bits crc_bit top_bit
crc_sent = refl

crc_got : crc_of Safety (nineteen 0x80 0x01) ≡ 0x6F27
unfolding crc_of crc_from crc_byte crc_bits crc_bit top_bit
crc_got = refl

two_flips : flips (nineteen 0x00 0x00) (nineteen 0x80 0x01) ≡ 2
unfolding flips ones ones_in
two_flips = refl

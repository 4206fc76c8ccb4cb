-- Where detection of two flipped bits ends: if x^(8 n + 15) is 1, the first and the last bit of n + 2 bytes are not seen, for every
-- polynomial; and so for the two of the bus. Assumes nothing.
use mathlib.Core.Path.{◌≡◌, refl, sym, ap, ap₂, ◌∙◌}
use mathlib.Core.List.{List, [], ◌∷◌, ◌++◌, zip_with}
use Prim.Native.Nat.{ℕ, zero, suc, ◌+◌, ◌*◌, ◌%◌, ◌^◌, ◌<◌}
use native.Mathlib.Omega.{arith}
use native.Mathlib.Nat.{zero-add}
use lib.Dec.{lit<}
use lib.Bits.{bit_xor, xor_zero_r}
use lib.Count.{ones, ones_in}
use lib.ListN.{length, replicate, length-append, length-replicate}
use Rattle.base.specs.Bytes.{Bytes}
use Rattle.base.proofs.Bytes.{bytes_cons, bytes_single, bytes_append, bytes_replicate}
use Rattle.crc.specs.Crc.{poly_of, crc_start, top_bit, crc_bit, crc_bits, crc_byte, crc_from, crc_of, Fcs, Safety}
use Rattle.crc.proofs.Linear.{from_linear, bit_low, bits_low}
use Rattle.crc.proofs.Bound.{bits_lt, poly_lt}
use Rattle.crc.proofs.Lossless.{bit_inj}
use Rattle.burst.specs.Damage.{flips}
use Rattle.distance.specs.Promise.{MissedTwo}
use Rattle.distance.proofs.Squares.{steps, zero_stays, times, squared, by_squares}

-- n + 2 bytes: zeros but for the first and the last
abbrev ends : ℕ → ℕ → ℕ → List ℕ
ends n a b = a ∷ replicate n 0 ++ (b ∷ [])

ends_bytes : (n a b : ℕ) → a < 256 → b < 256 → Bytes (ends n a b)
ends_bytes n a b ha hb =
    bytes_cons a (replicate n 0 ++ (b ∷ [])) ha
    (bytes_append (replicate n 0) (b ∷ []) (bytes_replicate n 0 (lit< tt)) (bytes_single b hb))

-- ---- the register over them
module _ (p : ℕ) where
  byte_zero : (c : ℕ) → crc_byte p c 0 ≡ crc_bits p 8 c
  unfolding crc_byte
  byte_zero c = ap (crc_bits p 8) (xor_zero_r c)

  no_bits : (c : ℕ) → crc_bits p 0 c ≡ c
  unfolding crc_bits
  no_bits c = refl

  zeros : (n c : ℕ) (ys : List ℕ) → crc_from p c (replicate n 0 ++ ys) ≡ crc_from p (crc_bits p (n * 8) c) ys
  unfolding crc_from
  zeros zero c ys = ap (λ (r : ℕ). crc_from p r ys) (sym (no_bits c))
  zeros (suc n) c ys =
      ap (λ (r : ℕ). crc_from p r (replicate n 0 ++ ys)) (byte_zero c)
      ∙ zeros n (crc_bits p 8 c) ys
      ∙ ap (λ (r : ℕ). crc_from p r ys) (sym (steps p (n * 8) 8 c) ∙ ap (λ (m : ℕ). crc_bits p m c) (omega arith))

  -- the first bit alone, after its byte
  first_byte : crc_byte p 0 0x80 ≡ crc_bits p 23 1
  unfolding crc_byte
  first_byte = ap (crc_bits p 8) (sym (bits_low p 15 1 (lit< tt))) ∙ sym (steps p 8 15 1)

  -- the last bit takes off what the first one came to
  last_byte : crc_from p 0x0100 (0x01 ∷ []) ≡ 0
  unfolding crc_from crc_byte
  last_byte = zero_stays p 8

  -- both alone, from register 0
  alone : (n : ℕ) → crc_bits p (n * 8 + 15) 1 ≡ 1 → crc_from p 0 (ends n 0x80 0x01) ≡ 0
  unfolding crc_from
  alone n e =
      zeros n (crc_byte p 0 0x80) (0x01 ∷ [])
      ∙ ap (λ (r : ℕ). crc_from p r (0x01 ∷ []))
      (ap (crc_bits p (n * 8)) first_byte
      ∙ sym (steps p (n * 8) 23 1)
      ∙ ap (λ (m : ℕ). crc_bits p m 1) (omega arith)
      ∙ steps p 8 (n * 8 + 15) 1
      ∙ ap (crc_bits p 8) e
      ∙ bits_low p 8 1 (lit< tt))
      ∙ last_byte

  -- zeros change no list that they are added to
  added : (n b : ℕ) → zip_with bit_xor (replicate n 0 ++ (0 ∷ [])) (replicate n 0 ++ (b ∷ [])) ≡ replicate n 0 ++ (b ∷ [])
  unfolding zip_with
  added zero b = refl
  added (suc n) b = ap (λ (l : List ℕ). 0 ∷ l) (added n b)

  ends_length : (n a b : ℕ) → length (ends n a b) ≡ n + 2
  ends_length n a b = omega (arith, length-append (replicate n 0) (b ∷ []), length-replicate {A = ℕ} n 0)

  unseen : (n c : ℕ) → crc_bits p (n * 8 + 15) 1 ≡ 1 → crc_from p c (ends n 0x00 0x00) ≡ crc_from p c (ends n 0x80 0x01)
  unfolding zip_with
  unseen n c e =
      sym (xor_zero_r (crc_from p c (ends n 0x00 0x00)))
      ∙ ap (bit_xor (crc_from p c (ends n 0x00 0x00))) (sym (alone n e))
      ∙ sym (from_linear p c 0 (ends n 0x00 0x00) (ends n 0x80 0x01) (ends_length n 0x00 0x00 ∙ sym (ends_length n 0x80 0x01)))
      ∙ ap₂ (crc_from p) (xor_zero_r c) (ap (λ (l : List ℕ). 0x80 ∷ l) (added n 0x01))

-- ---- the flips in them
last_flip : (n : ℕ) → flips (replicate n 0 ++ (0x00 ∷ [])) (replicate n 0 ++ (0x01 ∷ [])) ≡ 1
unfolding flips ones ones_in
last_flip zero = refl
last_flip (suc n) = zero-add (flips (replicate n 0 ++ (0x00 ∷ [])) (replicate n 0 ++ (0x01 ∷ []))) ∙ last_flip n

both_flips : (n : ℕ) → flips (ends n 0x00 0x00) (ends n 0x80 0x01) ≡ 2
unfolding flips ones ones_in
both_flips n = ap (λ (m : ℕ). 1 + m) (last_flip n)

pub missed : (p c n : ℕ) → crc_bits p (n * 8 + 15) 1 ≡ 1 → MissedTwo (n * 8 + 16) (crc_from p c)
missed p c n e = record {
  sent = ends n 0x00 0x00;
  got = ends n 0x80 0x01;
  sent_bytes = ends_bytes n 0x00 0x00 (lit< tt) (lit< tt);
  got_bytes = ends_bytes n 0x80 0x01 (lit< tt) (lit< tt);
  long = ends_length p n 0x00 0x00 ∙ sym (ends_length p n 0x80 0x01);
  bits = omega (arith, ends_length p n 0x00 0x00);
  two = both_flips n;
  same = unseen p n c e;
}

-- ---- the powers of x that are 1
-- one step less, if the constant term is 1
step_back : (p n : ℕ) → p < 2 ^ 16 → p % 2 ≡ 1 → crc_bits p (suc n) 1 ≡ 2 → crc_bits p n 1 ≡ 1
unfolding crc_bits
step_back p n terms odd e =
    bit_inj p terms odd (crc_bits p n 1) 1 (bits_lt p terms n 1 (lit< tt)) (lit< tt) (e ∙ sym (bit_low p 1 (lit< tt)))

-- x^32768 is x, by fifteen squarings
fifteen : squared (poly_of Fcs) 15 2 ≡ 2
unfolding squared times crc_bit top_bit
fifteen = refl

one_step : (p : ℕ) → crc_bits p 1 1 ≡ 2
one_step p = bits_low p 1 1 (lit< tt)

fcs_order : crc_bits (poly_of Fcs) 32767 1 ≡ 1
fcs_order =
    step_back (poly_of Fcs) 32767 (poly_lt Fcs) refl (by_squares (poly_of Fcs) (poly_lt Fcs) 15 1 2 (one_step (poly_of Fcs)) ∙ fifteen)

safety_order : crc_bits (poly_of Safety) 151 1 ≡ 1
unfolding crc_bits crc_bit top_bit
safety_order = refl

pub fcs_limit : MissedTwo 32768 (crc_of Fcs)
unfolding crc_of
fcs_limit = missed (poly_of Fcs) crc_start 4094 fcs_order

pub safety_limit : MissedTwo 152 (crc_of Safety)
unfolding crc_of
safety_limit = missed (poly_of Safety) crc_start 17 safety_order

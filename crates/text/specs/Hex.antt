-- Bytes written as pairs of hex digits. Assumes nothing.
use Rattle.std.specs.Prelude.{List, [], ◌∷◌, ◌++◌, ℕ, ◌+◌, ◌-◌, ◌*◌, ltb, length, drop, Option, Some, None, Result, Ok, Err}
use Rattle.std.proofs.lemmas.List.Edits.{sets}
use Rattle.base.specs.Choice.{choose, within}
use Rattle.text.specs.declared.hex.HexFault.{HexFault}
use Rattle.text.specs.declared.hex.HexFault.TheVariants.{NotHex, NoRoom}

-- a digit's value, in either case; 16 for any other character
unfoldable pub digit_value : ℕ → ℕ
digit_value c =
    choose (within 0x30 0x39 c) (c - 0x30)
    (choose (within 0x41 0x46 c) (c - 0x37)
    (choose (within 0x61 0x66 c) (c - 0x57) 16))

-- the byte that two digits stand for
unfoldable pub pair_of : ℕ → ℕ → Option ℕ
pair_of a b =
    choose (ltb 15 (digit_value a)) None
    (choose (ltb 15 (digit_value b)) None (Some (digit_value a * 16 + digit_value b)))

-- a pair, put before what the rest gives
abbrev pub paired : Option ℕ → Option (List ℕ) → Option (List ℕ)
paired (Some b) None = None
paired (Some b) (Some bs) = Some (b ∷ bs)
paired None o = None

-- the bytes of a text, if it is pairs of digits
unfoldable pub hex_pairs : List ℕ → Option (List ℕ)
hex_pairs [] = Some []
hex_pairs (a ∷ []) = None
hex_pairs (a ∷ b ∷ cs) = paired (pair_of a b) (hex_pairs cs)

-- the answer to reading them into a buffer of n bytes
abbrev pub hex_of : ℕ → Option (List ℕ) → Result ℕ HexFault
hex_of n None = Err NotHex
hex_of n (Some bs) = choose (ltb n (length bs)) (Err NoRoom) (Ok (length bs))

-- and the buffer afterwards: the bytes, with the rest as it was; or all as it was
abbrev pub hex_left : Option (List ℕ) → List ℕ → List ℕ
hex_left None buf = buf
hex_left (Some bs) buf = choose (ltb (length buf) (length bs)) buf (bs ++ drop (length bs) buf)

-- ---- the steps of the code
-- n bytes and those of the rest, and a buffer with those of the rest stored from index n; nothing if the rest is not pairs
abbrev pub stored : List ℕ → ℕ → Option (List ℕ) → Option (ℕ × List ℕ)
stored buf n None = None
stored buf n (Some bs) = Some (n + length bs, sets buf n bs)

-- how the code tells that: a count, and a lent buffer
abbrev pub told : Option ℕ → List ℕ → Option (ℕ × List ℕ)
told None buf = None
told (Some n) buf = Some (n, buf)

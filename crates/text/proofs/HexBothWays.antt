-- Bytes that are put down in hex digits are read back as the same bytes. Assumes nothing.
use mathlib.Core.Path.{◌≡◌, refl, ap}
use mathlib.Core.Bool.{Bool, false}
use mathlib.Core.List.{List, [], ◌∷◌}
use Rattle.std.specs.Prelude.{Option, Some, None}
use Prim.Native.Nat.{ℕ, suc, ◌/◌, ◌%◌, ◌<◌}
use native.Mathlib.Omega.{arith}
use lib.Dec.{T, eqb, eqb→eq}
use Rattle.base.specs.Bytes.{Bytes}
use Rattle.base.proofs.Interval.{at}
use Rattle.text.specs.Hex.{digit_value, pair_of, hex_pairs}
use Rattle.text.specs.Putting.{digit_of, hex_digits, hex_text}

abbrev says : Option ℕ → ℕ → Bool
says (Some x) b = eqb x b
says None b = false

said : (p : Option ℕ) (b : ℕ) → T (says p b) → p ≡ Some b
said (Some x) b t = ap Some (eqb→eq x b t)
said None b t = absurd t

-- antt computes it for each byte
byte_back : (b : ℕ) → b < 256 → pair_of (digit_of (b / 16)) (digit_of (b % 16)) ≡ Some b
unfolding pair_of digit_value digit_of
byte_back b h =
    said (pair_of (digit_of (b / 16)) (digit_of (b % 16))) b
    (at (λ x. says (pair_of (digit_of (x / 16)) (digit_of (x % 16))) x) 0 256 tt b (omega arith) (omega arith))

pub text_back : (bs : List ℕ) → Bytes bs → hex_pairs (hex_text bs) ≡ Some bs
unfolding hex_pairs hex_text hex_digits
text_back [] h = refl
text_back (b ∷ bs) h = rw (byte_back b (h 0), text_back bs (λ i. h (suc i)))

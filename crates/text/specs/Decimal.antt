-- Numbers in decimal: read (1 or more, no leading zero), and put down. Assumes nothing.
use Rattle.std.specs.Prelude.{List, [], ◌∷◌, ◌++◌, ℕ, zero, suc, ◌+◌, ◌*◌, ◌/◌, ◌%◌, eqb, ltb, Option, Some, None}
use Rattle.base.specs.Choice.{choose}
use Rattle.text.specs.Hex.{digit_value}

-- the number in some digits that follow those of the number n
unfoldable pub digits_from : ℕ → List ℕ → Option ℕ
digits_from n [] = Some n
digits_from n (c ∷ cs) = choose (ltb 9 (digit_value c)) None (digits_from (n * 10 + digit_value c) cs)

-- at most a limit
abbrev pub up_to : ℕ → Option ℕ → Option ℕ
up_to limit None = None
up_to limit (Some n) = choose (ltb limit n) None (Some n)

-- at least one digit, and the first is not 0
unfoldable pub decimal_of : ℕ → List ℕ → Option ℕ
decimal_of limit [] = None
decimal_of limit (c ∷ cs) = choose (eqb c 0x30) None (up_to limit (digits_from 0 (c ∷ cs)))

-- the digits of a number, the high digit first; at most the last k of them, and none for 0
unfoldable pub digits : ℕ → ℕ → List ℕ
digits zero n = []
digits (suc k) n = choose (eqb n 0) [] (digits k (n / 10) ++ ((n % 10 + 0x30) ∷ []))

-- a number as it is put down; 20 digits hold every number of 64 bits
unfoldable pub decimal_text : ℕ → List ℕ
decimal_text n = choose (eqb n 0) (0x30 ∷ []) (digits 20 n)

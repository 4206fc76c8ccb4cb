-- Stuffing, and what stuffed bytes mean. Assumes nothing.
use Rattle.std.specs.Prelude.{Bool, true, false, List, [], ◌∷◌, ◌++◌, ℕ, eqb, length, ◌≡◌, replicate, Option, Some, None}
use Rattle.std.proofs.lemmas.List.Edits.{sets}
use Rattle.base.specs.Choice.{choose}

-- 7Eh is sent as 7Dh 5Eh, 7Dh as 7Dh 5Dh
unfoldable pub stuff_byte : ℕ → List ℕ
stuff_byte b = choose (eqb b 0x7E) (0x7D ∷ 0x5E ∷ []) (choose (eqb b 0x7D) (0x7D ∷ 0x5D ∷ []) (b ∷ []))

unfoldable pub stuff : List ℕ → List ℕ
stuff [] = []
stuff (b ∷ bs) = stuff_byte b ++ stuff bs

pub data Meaning : Type 0 where
  Plain : ℕ → Meaning
  Escape : Meaning
  Wrong : Meaning

-- what a received byte means: after an escape, and otherwise
unfoldable pub meaning_of : Bool → ℕ → Meaning
meaning_of true b = choose (eqb b 0x5E) (Plain 0x7E) (choose (eqb b 0x5D) (Plain 0x7D) Wrong)
meaning_of false b = choose (eqb b 0x7E) Wrong (choose (eqb b 0x7D) Escape (Plain b))

abbrev pub prepend : ℕ → Option (List ℕ) → Option (List ℕ)
prepend x None = None
prepend x (Some ys) = Some (x ∷ ys)

-- a byte's meaning, put before what the rest gives; the rest goes on escaped or not
abbrev pub before : Meaning → (Bool → Option (List ℕ)) → Option (List ℕ)
before (Plain b) rest = prepend b (rest false)
before Escape rest = rest true
before Wrong rest = None

-- an escape must be followed by a byte
abbrev pub at_end : Bool → Option (List ℕ)
at_end true = None
at_end false = Some []

unfoldable pub unstuff_from : List ℕ → Bool → Option (List ℕ)
unstuff_from [] escaped = at_end escaped
unstuff_from (b ∷ bs) escaped = before (meaning_of escaped b) (λ e. unstuff_from bs e)

-- the bytes before stuffing; none if there is a 7Eh, or a 7Dh not followed by 5Dh or 5Eh
unfoldable pub unstuff : List ℕ → Option (List ℕ)
unstuff s = unstuff_from s false

-- how the code tells a byte's meaning after an escape
abbrev pub meaning_escaped : Option ℕ → Meaning
meaning_escaped None = Wrong
meaning_escaped (Some b) = Plain b

-- how many bytes there are without escapes, and what an array holds with them at its start; nothing if a byte is wrong
abbrev pub plain_in : List ℕ → Option (List ℕ) → Option (ℕ × List ℕ)
plain_in bytes None = None
plain_in bytes (Some xs) = Some (length xs, sets bytes 0 xs)

-- how the code tells that: a count and a lent array
abbrev pub told : Option ℕ → List ℕ → Option (ℕ × List ℕ)
told None bytes = None
told (Some n) bytes = Some (n, bytes)

-- and what it leaves if a byte is wrong: nothing in the array
abbrev pub Cleared : Option ℕ → List ℕ → Type 0
Cleared None bytes = bytes ≡ replicate 272 0
Cleared (Some n) bytes = Unit

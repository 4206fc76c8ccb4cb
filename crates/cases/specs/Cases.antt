-- The case programs: a line in hex digits is a case, its first byte is the operation, and the answer is bytes, printed in
-- hex digits. Assumes nothing.
use Rattle.std.specs.Prelude.{◌≡◌, List, [], ◌∷◌, ◌++◌, ℕ, ◌≤◌, eqb, ltb, length, None, Option, Some}
use Rattle.base.specs.Choice.{choose}
use Rattle.text.specs.Hex.{hex_pairs}
use Rattle.text.specs.Putting.{hex_text}
use Rattle.console.specs.Programs.{Program}
use Rattle.frame_words.specs.Chars.{chars}

abbrev pub bytes_in : Option (List ℕ) → List ℕ
bytes_in None = []
bytes_in (Some bs) = bs

-- the bytes of a line; none if it has over 1,200 characters, or is not pairs of hex digits
unfoldable pub case_of : List ℕ → List ℕ
case_of l = choose (ltb 1200 (length l)) [] (bytes_in (hex_pairs l))

-- what a program answers: f, of the operation and the bytes after it; no bytes to a case of no bytes
abbrev pub answer_to : (ℕ → List ℕ → List ℕ) → List ℕ → List ℕ
answer_to f [] = []
answer_to f (op ∷ s) = f op s

-- each program has two operations, 0 and 1
abbrev pub by_operation : ℕ → List ℕ → List ℕ → List ℕ
by_operation op first second = choose (eqb op 0) first (choose (eqb op 1) second [])

-- an answer in hex digits, or BAD if it has no bytes
unfoldable pub answer_text : List ℕ → List ℕ
answer_text [] = chars "BAD\n"
answer_text (b ∷ bs) = hex_text (b ∷ bs) ++ (0x0A ∷ [])

-- THE PROGRAM: it holds nothing, and says to each line the text of its answer
abbrev pub answering : (ℕ → List ℕ → List ℕ) → Program Unit
answering f = record { start = tt; first = []; next = λ u l. u; says = λ u l. answer_text (answer_to f (case_of l)); ends = λ u. [] }

-- the text t holds the answer bs, which is short enough to be printed
pub record Says (t bs : List ℕ) : Type 0 where
  pub is : t ≡ bs
  pub fits : length bs ≤ 603

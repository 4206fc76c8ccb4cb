-- Laying down as a case: into a buffer with a pattern in it. Assumes nothing.
use Rattle.std.specs.Prelude.{List, [], ◌∷◌, ◌++◌, ℕ, zero, suc, ◌+◌, ◌%◌, Ok, Err}
use Rattle.base.specs.Bytes.{bytes_of}
use Rattle.laying.specs.Laying.{Laid, laid_answer, left_by}

-- byte i is i modulo 251: n bytes, from byte i on
unfoldable pub pattern_from : ℕ → ℕ → List ℕ
pattern_from i zero = []
pattern_from i (suc n) = i % 251 ∷ pattern_from (i + 1) n

unfoldable pub pattern : List ℕ
pattern = pattern_from 0 600

-- the length on the line; 0 for a refusal
abbrev pub sent_len : Laid → ℕ
sent_len (Ok n) = n
sent_len (Err e) = 0

-- the answer: document 01's number, the length in two bytes, and the buffer as it is left
abbrev pub laid_bytes : Laid → List ℕ → List ℕ → List ℕ
laid_bytes laid line buf = (laid_answer laid).0 ∷ (bytes_of 2 (sent_len laid) ++ left_by laid line buf)

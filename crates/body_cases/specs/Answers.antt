-- The answer to a case of bodies: 0 reads one, 1 lays application data down. Assumes nothing.
use Rattle.std.specs.Prelude.{List, [], ◌∷◌, ℕ, ltb, length, take, drop}
use Rattle.std.proofs.Math.Option.{none, some}
use Rattle.base.specs.Choice.{choose}
use Rattle.base.specs.Bytes.{number_at}
use Rattle.wire.specs.Answer.{Answer}
use Rattle.wire.specs.Body.{answer_to_body}
use Rattle.laying.specs.Laying.{line_of, laid_of}
use Rattle.cases.specs.Cases.{by_operation}
use Rattle.cases.specs.Layings.{pattern, laid_bytes}

-- document 01's number and, with 0, the address and the application data
abbrev pub read_bytes : Answer (ℕ × List ℕ) → List ℕ
read_bytes (n, none) = n ∷ []
read_bytes (n, some (a, xs)) = n ∷ a ∷ xs

-- application data laid into a buffer
abbrev pub laid_into : List ℕ → ℕ → List ℕ → List ℕ
laid_into buf a xs = laid_bytes (laid_of (length buf) a xs) (line_of a xs) buf

-- room (2 bytes, at most 600), address and application data
unfoldable pub lay_answer : List ℕ → List ℕ
lay_answer s =
    choose (ltb (length s) 3) []
    (choose (ltb 600 (number_at s 0 2)) []
    (laid_into (take (number_at s 0 2) pattern) (number_at s 2 1) (drop 3 s)))

unfoldable pub body_answers : ℕ → List ℕ → List ℕ
body_answers op s = by_operation op (read_bytes (answer_to_body s)) (lay_answer s)

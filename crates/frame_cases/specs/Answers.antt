-- The answer to a case of frames: 0 reads one from a body, 1 writes one. Assumes nothing.
use Rattle.std.specs.Prelude.{◌||◌, List, [], ◌∷◌, ◌++◌, ℕ, ◌+◌, ltb, length, take, drop}
use Rattle.std.proofs.Math.Option.{none, some}
use Rattle.base.specs.Choice.{choose}
use Rattle.base.specs.Bytes.{number_at}
use Rattle.fields.specs.Fields.{laid}
use Rattle.wire.specs.Answer.{Answer}
use Rattle.frame_kinds.specs.Kinds.{tail_of}
use Rattle.frame_reading.specs.Reading.{answer_to_frame}
use Rattle.frame_writing.specs.Writing.{frame_line, written_of}
use Rattle.frame_kinds.specs.declared.kinds.Frame.{Frame}
use Rattle.cases.specs.Cases.{by_operation}
use Rattle.cases.specs.Layings.{pattern, laid_bytes}
use Rattle.case_fields.specs.Kinds.{row_of, frame_at, fields_len}

-- document 01's number and, with 0, the address, the kind, its fields and the data
abbrev pub read_bytes : Answer (ℕ × Frame × List ℕ) → List ℕ
read_bytes (n, none) = n ∷ []
read_bytes (n, some (a, f, xs)) = n ∷ a ∷ (row_of f).0 ∷ (laid (row_of f).1 ++ (laid (tail_of f) ++ xs))

-- a frame written into a buffer
abbrev pub written_into : List ℕ → ℕ → Frame → List ℕ → List ℕ
written_into buf a f xs = laid_bytes (written_of (length buf) a f xs) (frame_line a f xs) buf

-- room (2 bytes, at most 600), address, kind (at most 0C), its fields and the data
unfoldable pub write_answer : List ℕ → List ℕ
write_answer s =
    choose (ltb 0x0C (number_at s 3 1) || ltb 600 (number_at s 0 2)) []
    (choose (ltb (length s) (4 + fields_len (number_at s 3 1))) []
    (written_into (take (number_at s 0 2) pattern) (number_at s 2 1) (frame_at (number_at s 3 1) (drop 4 s)) (drop (4 + fields_len (number_at s 3 1)) s)))

unfoldable pub frame_answers : ℕ → List ℕ → List ℕ
frame_answers op s = by_operation op (read_bytes (answer_to_frame s)) (write_answer s)

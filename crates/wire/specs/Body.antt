-- How the body between two flags is read: numbers 1 to 5. Assumes nothing.
use Rattle.std.specs.Prelude.{Bool, ◌||◌, List, ◌∷◌, ℕ, ◌+◌, ◌-◌, ◌*◌, eqb, ltb, length, take, drop, get_or, ◌≡◌, ◌≤◌, replicate, Option, Some, None, Result, Ok, Err}
use Rattle.std.specs.Borrow.{Fml, MutBor, Array, u8}
use Rattle.std.specs.Io.BufRead.{Rests}
use Rattle.std.proofs.Math.Option.{none, some}
use Rattle.std.proofs.lemmas.List.Edits.{sets}
use Rattle.base.specs.Choice.{choose, within}
use Rattle.crc.specs.Crc.{crc_of, Fcs}
use Rattle.wire.specs.Answer.{Answer}
use Rattle.stuffing.specs.Stuffing.{unstuff}
use Rattle.wire.specs.declared.LineFault.{LineFault}
use Rattle.wire.specs.declared.LineFault.TheVariants.{Length, Stuffing, Size, Check, Reserved}
use Rattle.wire.specs.declared.Body.{Body}

-- document 01's number for each fault
abbrev pub number_of : LineFault → ℕ
number_of Length = 1
number_of Stuffing = 2
number_of Size = 3
number_of Check = 4
number_of Reserved = 5

-- a body as it was read: address and application data, or a fault
abbrev pub ReadBody : Type 0
ReadBody = Result (ℕ × List ℕ) LineFault

-- how the code holds it
abbrev pub shown : Result Body LineFault → ReadBody
shown (Ok b) = Ok (b.addr, b.«data».now)
shown (Err e) = Err e

-- document 01's number and, with 0, the address and the application data
abbrev pub body_answer : ReadBody → Answer (ℕ × List ℕ)
body_answer (Ok b) = (0, some b)
body_answer (Err e) = (number_of e, none)

-- and before the array's part is lent on: the address, and how many bytes of the array are the data; these are in the array
abbrev pub held_in : Result (ℕ × ℕ) LineFault → List ℕ → ReadBody
held_in (Ok b) bytes = Ok (b.0, take b.1 bytes)
held_in (Err e) bytes = Err e

abbrev pub Within : ℕ → Result (ℕ × ℕ) LineFault → Type 0
Within n (Ok b) = b.1 ≤ n
Within n (Err e) = Unit

-- what unstuffing leaves in an array of the bytes old: the unstuffed bytes at its start
abbrev pub Unstuffed : Result (ℕ × ℕ) LineFault → List ℕ → Option (List ℕ) → List ℕ → Type 0
Unstuffed (Ok b) old (Some xs) bytes = bytes ≡ sets old 0 xs
Unstuffed (Ok b) old None bytes = ⊥
Unstuffed (Err e) old u bytes = Unit

-- what the reader leaves in the array: the unstuffed bytes, filled up with zeros; with a fault nothing
abbrev pub left_in : Result (ℕ × ℕ) LineFault → Option (List ℕ) → List ℕ
left_in (Ok b) (Some xs) = sets (replicate 272 0) 0 xs
left_in (Ok b) None = replicate 272 0
left_in (Err e) u = replicate 272 0

-- the same where the array's part is lent on
abbrev pub left_behind : Result Body LineFault → Option (List ℕ) → List ℕ
left_behind (Ok b) u = left_in (Ok (b.addr, length b.«data».now)) u
left_behind (Err e) u = left_in (Err e) u

-- the array that was lent holds xs when nothing borrows from it any more
abbrev pub Leaves : MutBor (List ℕ) → List ℕ → Fml
Leaves s xs = Rests (Array u8 272) s (λ new. new ≡ xs)

abbrev pub answer_of : Result Body LineFault → Answer (ℕ × List ℕ)
answer_of r = body_answer (shown r)

-- 00h, 7Dh, 7Eh, 91h to EFh and F9h to FEh are reserved
unfoldable pub reserved_addr : ℕ → Bool
reserved_addr a = eqb a 0x00 || eqb a 0x7D || eqb a 0x7E || within 0x91 0xEF a || within 0xF9 0xFE a

-- the FCS covers address and unstuffed data
unfoldable pub fcs_of : ℕ → List ℕ → ℕ
fcs_of a xs = crc_of Fcs (a ∷ xs)

-- 4, then 5, for an address and unstuffed bytes; the last two of these are the FCS, high byte first
unfoldable pub checked_body : ℕ → List ℕ → ReadBody
checked_body a xs =
    choose (eqb (fcs_of a (take (length xs - 2) xs)) (get_or xs (length xs - 2) 0 * 256 + get_or xs (length xs - 2 + 1) 0))
    (choose (reserved_addr a) (Err Reserved) (Ok (a, take (length xs - 2) xs)))
    (Err Check)

-- 2, then 3: 7 to 272 bytes, including the address and the FCS; the length here leaves out the address
unfoldable pub unstuffed_body : ℕ → Option (List ℕ) → ReadBody
unstuffed_body a None = Err Stuffing
unstuffed_body a (Some xs) = choose (ltb (length xs) 6) (Err Size) (choose (ltb 271 (length xs)) (Err Size) (checked_body a xs))

-- 1: 7 to 543 bytes; the address is not stuffed
unfoldable pub read_body : List ℕ → ReadBody
read_body s =
    choose (ltb (length s) 7) (Err Length)
    (choose (ltb 543 (length s)) (Err Length) (unstuffed_body (get_or s 0 0) (unstuff (drop 1 s))))

-- the answer to a body as it came from the line
abbrev pub answer_to_body : List ℕ → Answer (ℕ × List ℕ)
answer_to_body s = body_answer (read_body s)

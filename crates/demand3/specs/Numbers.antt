-- The numbers in the claim, written out from documents 01 and 02 and not imported from the rules that the claim is about.
-- proofs/SameNumbers joins them to the rules' own. Assumes nothing.
use Rattle.std.specs.Prelude.{Bool, ◌&&◌, ◌||◌, List, ℕ, ◌+◌, ◌-◌, ◌/◌, ◌%◌, max, eqb, leb, length, get_or}

-- the two modes, as include/saturn.h has them
abbrev pub in_run : ℕ
in_run = 1

abbrev pub in_fallback : ℕ
in_fallback = 0

-- TCYC, CNF_REP and CNF_CYC; the ground; the outputs are 80h to BFh
abbrev pub tcyc : ℕ
tcyc = 0x18

abbrev pub cnf_rep : ℕ
cnf_rep = 0x1A

abbrev pub cnf_cyc : ℕ
cnf_cyc = 0x1B

abbrev pub ground_at : ℕ
ground_at = 0x26

abbrev pub outputs_at : ℕ
outputs_at = 0x80

abbrev pub last_output : ℕ
last_output = 0xBF

-- how many outputs there are
abbrev pub image : ℕ
image = 64

-- the limit of requests a cycle: 16 or 64
abbrev pub is_limit : ℕ → Bool
is_limit n = eqb n 16 || eqb n 64

-- how many numbers a request may skip
abbrev pub most_skipped : ℕ
most_skipped = 3

-- w, the width of a sync's window: TCYC / 8 rounded down, at least 1
abbrev pub window : ℕ → ℕ
window t = max 1 (t / 8)

-- the grounds: none since power-up, sync silence, command silence, wrong cycle, order, window
abbrev pub no_ground : ℕ
no_ground = 0

abbrev pub by_sync_silence : ℕ
by_sync_silence = 1

abbrev pub by_command_silence : ℕ
by_command_silence = 2

abbrev pub by_wrong_cycle : ℕ
by_wrong_cycle = 3

abbrev pub by_order : ℕ
by_order = 4

abbrev pub by_window : ℕ
by_window = 5

-- the answers that the claim names: accepted; a wrong cycle; a write outside the rules; an unsound state; a sync outside its window
abbrev pub accepted : ℕ
accepted = 0

abbrev pub cycle : ℕ
cycle = 12

abbrev pub outside_rules : ℕ
outside_rules = 16

abbrev pub unsound : ℕ
unsound = 19

abbrev pub outside_window : ℕ
outside_window = 22

-- the answers of calls that can be struck from a list: another's address, CRC, source, addressee, repeat
abbrev pub can_be_struck : ℕ → Bool
can_be_struck n = eqb n 6 || (eqb n 9 || (eqb n 10 || (eqb n 11 || eqb n 13)))

-- accepted: answered 0
abbrev pub is_accepted : ℕ → Bool
is_accepted n = eqb n accepted

-- the first SEQ: the complement of CYC plus one, modulo 256
abbrev pub first_seq : ℕ → ℕ
first_seq cyc = (0xFF - cyc + 1) % 256

-- a release order: a write of 55h to 17h
abbrev pub writes_release : ℕ → List ℕ → Bool
writes_release add xs = eqb add 0x17 && eqb (length xs) 1 && eqb (get_or xs 0 0) 0x55

-- an order to fall back: a write of AAh to 17h
abbrev pub writes_fallback : ℕ → List ℕ → Bool
writes_fallback add xs = eqb add 0x17 && eqb (length xs) 1 && eqb (get_or xs 0 0) 0xAA

-- an output write: at least one byte, wholly within 80h to BFh
abbrev pub writes_within_outputs : ℕ → List ℕ → Bool
writes_within_outputs add xs = leb 1 (length xs) && leb outputs_at add && leb (add + length xs) (last_output + 1)

-- The form of each kind of frame: numbers 8 and 9. `number_at s position length` is a field. Assumes nothing.
use Rattle.std.specs.Prelude.{Bool, true, false, ◌&&◌, ◌||◌, List, ℕ, ◌+◌, ◌-◌, eqb, ltb, length, take, Result, Ok, Err}
use Rattle.base.specs.Choice.{choose}
use Rattle.base.specs.Bytes.{number_at}
use Rattle.crc.specs.Crc.{crc_of, Safety}
use Rattle.frame_kinds.specs.declared.kinds.Frame.{Frame}
use Rattle.frame_kinds.specs.declared.kinds.Frame.TheVariants.{Sync, SafeRead, SafeWrite, PlainRead, PlainWrite, SafeResponse, PlainSyncResponse, PlainResponse, TidAssignment, SidAssignment, SidAssignment4, Acknowledgement, Invariants}
use Rattle.frame_forms.specs.declared.FrameFault.{FrameFault}
use Rattle.frame_forms.specs.declared.FrameFault.TheVariants.{Kind, Form, Check}

-- application data as they were read: a frame, or a fault
abbrev pub Read : Type 0
Read = Result Frame FrameFault

-- document 01's number for each fault
abbrev pub number_of : FrameFault → ℕ
number_of Kind = 7
number_of Form = 8
number_of Check = 9

-- the safety CRC at the end is that of the bytes before it
unfoldable pub safe_ok : List ℕ → Bool
safe_ok s = eqb (crc_of Safety (take (length s - 2) s)) (number_at s (length s - 2) 2)

-- a safe frame: its form (8), then its CRC (9)
unfoldable pub safe_read : Bool → List ℕ → Frame → Read
safe_read form s f = choose form (choose (safe_ok s) (Ok f) (Err Check)) (Err Form)

-- a non-safe frame: its form only
unfoldable pub plain_read : Bool → Frame → Read
plain_read form f = choose form (Ok f) (Err Form)

-- table 4; a sync has address FFh
unfoldable pub read_sync : ℕ → List ℕ → Read
read_sync a s = safe_read (eqb (length s) 7 && eqb a 0xFF) s (Sync (number_at s 1 3) (number_at s 4 1))

-- table 5: COM 88h reads and has no data, 77h writes DATL bytes
unfoldable pub safe_read_request : List ℕ → Read
safe_read_request s =
    safe_read (eqb (length s) 14) s
    (SafeRead (number_at s 1 3) (number_at s 4 3) (number_at s 7 1) (number_at s 8 1) (number_at s 10 1) (number_at s 11 1))

unfoldable pub safe_write_request : List ℕ → Read
safe_write_request s =
    safe_read (eqb (length s) (14 + number_at s 10 1)) s
    (SafeWrite (number_at s 1 3) (number_at s 4 3) (number_at s 7 1) (number_at s 8 1) (number_at s 10 1) (number_at s 11 1))

unfoldable pub read_safe_request : List ℕ → Read
read_safe_request s = choose (eqb (number_at s 9 1) 0x88) (safe_read_request s) (choose (eqb (number_at s 9 1) 0x77) (safe_write_request s) (Err Form))

-- table 6: COM 02h reads, 01h writes
unfoldable pub read_plain_request : List ℕ → Read
read_plain_request s =
    choose (eqb (number_at s 2 1) 0x02)
    (plain_read (eqb (length s) 5) (PlainRead (number_at s 1 1) (number_at s 3 1) (number_at s 4 1)))
    (choose (eqb (number_at s 2 1) 0x01)
    (plain_read (eqb (length s) (5 + number_at s 3 1)) (PlainWrite (number_at s 1 1) (number_at s 3 1) (number_at s 4 1)))
    (Err Form))

-- table 7: COM 07h and 70h with at most 254 data bytes, AAh and 55h (errors) with none
unfoldable pub safe_com : ℕ → ℕ → Bool
safe_com «com» datl = choose (eqb «com» 0x07 || eqb «com» 0x70) (ltb datl 255) (choose (eqb «com» 0xAA || eqb «com» 0x55) (eqb datl 0) false)

unfoldable pub read_safe_response : List ℕ → Read
read_safe_response s =
    safe_read (safe_com (number_at s 9 1) (number_at s 10 1) && eqb (length s) (15 + number_at s 10 1)) s
    (SafeResponse (number_at s 1 3) (number_at s 4 3) (number_at s 7 1) (number_at s 8 1) (number_at s 9 1) (number_at s 10 1) (number_at s 11 1) (number_at s (12 + number_at s 10 1) 1))

-- table 8: COM 01h has a status byte at 5 + DATL, the others have none; AAh and 55h (errors) have no data
unfoldable pub plain_com : ℕ → ℕ → Bool
plain_com «com» datl = choose (eqb «com» 0x02) true (choose (eqb «com» 0xAA || eqb «com» 0x55) (eqb datl 0) false)

unfoldable pub read_plain_response : List ℕ → Read
read_plain_response s =
    choose (eqb (number_at s 2 1) 0x01)
    (plain_read (eqb (length s) (6 + number_at s 3 1)) (PlainSyncResponse (number_at s 1 1) (number_at s 3 1) (number_at s 4 1) (number_at s (5 + number_at s 3 1) 1)))
    (plain_read (plain_com (number_at s 2 1) (number_at s 3 1) && eqb (length s) (5 + number_at s 3 1)) (PlainResponse (number_at s 1 1) (number_at s 2 1) (number_at s 3 1) (number_at s 4 1)))

-- table 9
unfoldable pub read_tid_assignment : List ℕ → Read
read_tid_assignment s = plain_read (eqb (length s) 11) (TidAssignment (number_at s 1 1) (number_at s 2 8) (number_at s 10 1))

-- table 10, and the SIL4 form, which is told apart by its length
unfoldable pub sil2_assignment : List ℕ → Read
sil2_assignment s =
    safe_read (eqb (length s) 21) s (SidAssignment (number_at s 1 3) (number_at s 4 4) (number_at s 8 8) (number_at s 16 3))

unfoldable pub sil4_assignment : List ℕ → Read
sil4_assignment s =
    safe_read (eqb (length s) 27) s
    (SidAssignment4 (number_at s 1 3) (number_at s 4 4) (number_at s 8 8) (number_at s 16 3) (number_at s 19 3) (number_at s 22 3))

unfoldable pub read_sid_assignment : List ℕ → Read
read_sid_assignment s = choose (eqb (length s) 27) (sil4_assignment s) (sil2_assignment s)

-- table 11
unfoldable pub read_acknowledgement : List ℕ → Read
read_acknowledgement s = safe_read (eqb (length s) 21) s (Acknowledgement (number_at s 1 3) (number_at s 4 3) (number_at s 7 4) (number_at s 11 8))

-- table 12
unfoldable pub read_invariants : List ℕ → Read
read_invariants s = safe_read (eqb (length s) 15) s (Invariants (number_at s 1 3) (number_at s 4 3) (number_at s 7 1) (number_at s 8 1) (number_at s 9 2) (number_at s 11 2))

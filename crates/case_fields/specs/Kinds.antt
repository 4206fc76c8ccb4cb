-- The kinds of frames by their numbers, and the fields of each as a case gives them: 24 bits in 4 bytes, and no COM if the
-- kind fixes it. Assumes nothing.
use Rattle.std.specs.Prelude.{List, [], ◌∷◌, ℕ, eqb, get_or}
use Rattle.base.specs.Choice.{choose}
use Rattle.base.specs.Bytes.{number_at}
use Rattle.frame_kinds.specs.declared.kinds.Frame.{Frame}
use Rattle.frame_kinds.specs.declared.kinds.Frame.TheVariants.{Sync, SafeRead, SafeWrite, PlainRead, PlainWrite, SafeResponse, PlainSyncResponse, PlainResponse, TidAssignment, SidAssignment, SidAssignment4, Acknowledgement, Invariants}

-- a kind's number, and the fields before STAT, a width and a number each
abbrev pub row_of : Frame → ℕ × List (ℕ × ℕ)
row_of (Sync src cyc) = (0x00, (4, src) ∷ (1, cyc) ∷ [])
row_of (SafeRead dest src cyc seq datl add) = (0x01, (4, dest) ∷ (4, src) ∷ (1, cyc) ∷ (1, seq) ∷ (1, datl) ∷ (1, add) ∷ [])
row_of (SafeWrite dest src cyc seq datl add) = (0x02, (4, dest) ∷ (4, src) ∷ (1, cyc) ∷ (1, seq) ∷ (1, datl) ∷ (1, add) ∷ [])
row_of (PlainRead src datl add) = (0x03, (1, src) ∷ (1, datl) ∷ (1, add) ∷ [])
row_of (PlainWrite src datl add) = (0x04, (1, src) ∷ (1, datl) ∷ (1, add) ∷ [])
row_of (SafeResponse dest src cyc seq «com» datl add stat) =
    (0x05, (4, dest) ∷ (4, src) ∷ (1, cyc) ∷ (1, seq) ∷ (1, «com») ∷ (1, datl) ∷ (1, add) ∷ [])
row_of (PlainSyncResponse src datl add stat) = (0x06, (1, src) ∷ (1, datl) ∷ (1, add) ∷ [])
row_of (PlainResponse src «com» datl add) = (0x07, (1, src) ∷ (1, «com») ∷ (1, datl) ∷ (1, add) ∷ [])
row_of (TidAssignment src iid tid) = (0x08, (1, src) ∷ (8, iid) ∷ (1, tid) ∷ [])
row_of (SidAssignment src sec mac sid) = (0x09, (4, src) ∷ (4, sec) ∷ (8, mac) ∷ (4, sid) ∷ [])
row_of (SidAssignment4 src sec mac sid sid2 src2) =
    (0x0A, (4, src) ∷ (4, sec) ∷ (8, mac) ∷ (4, sid) ∷ (4, sid2) ∷ (4, src2) ∷ [])
row_of (Acknowledgement src dst sec mac) = (0x0B, (4, src) ∷ (4, dst) ∷ (4, sec) ∷ (8, mac) ∷ [])
row_of (Invariants dest src cyc seq config logic) =
    (0x0C, (4, dest) ∷ (4, src) ∷ (1, cyc) ∷ (1, seq) ∷ (2, config) ∷ (2, logic) ∷ [])

-- and back: the frame of each kind with the fields that the bytes hold, STAT among them
abbrev pub sync_at : List ℕ → Frame
sync_at s = Sync (number_at s 0 4) (number_at s 4 1)

abbrev pub safe_read_at : List ℕ → Frame
safe_read_at s = SafeRead (number_at s 0 4) (number_at s 4 4) (number_at s 8 1) (number_at s 9 1) (number_at s 10 1) (number_at s 11 1)

abbrev pub safe_write_at : List ℕ → Frame
safe_write_at s = SafeWrite (number_at s 0 4) (number_at s 4 4) (number_at s 8 1) (number_at s 9 1) (number_at s 10 1) (number_at s 11 1)

abbrev pub plain_read_at : List ℕ → Frame
plain_read_at s = PlainRead (number_at s 0 1) (number_at s 1 1) (number_at s 2 1)

abbrev pub plain_write_at : List ℕ → Frame
plain_write_at s = PlainWrite (number_at s 0 1) (number_at s 1 1) (number_at s 2 1)

abbrev pub safe_response_at : List ℕ → Frame
safe_response_at s = SafeResponse (number_at s 0 4) (number_at s 4 4) (number_at s 8 1) (number_at s 9 1) (number_at s 10 1) (number_at s 11 1) (number_at s 12 1) (number_at s 13 1)

abbrev pub plain_sync_response_at : List ℕ → Frame
plain_sync_response_at s = PlainSyncResponse (number_at s 0 1) (number_at s 1 1) (number_at s 2 1) (number_at s 3 1)

abbrev pub plain_response_at : List ℕ → Frame
plain_response_at s = PlainResponse (number_at s 0 1) (number_at s 1 1) (number_at s 2 1) (number_at s 3 1)

abbrev pub tid_assignment_at : List ℕ → Frame
tid_assignment_at s = TidAssignment (number_at s 0 1) (number_at s 1 8) (number_at s 9 1)

abbrev pub sid_assignment_at : List ℕ → Frame
sid_assignment_at s = SidAssignment (number_at s 0 4) (number_at s 4 4) (number_at s 8 8) (number_at s 16 4)

abbrev pub sid_assignment4_at : List ℕ → Frame
sid_assignment4_at s = SidAssignment4 (number_at s 0 4) (number_at s 4 4) (number_at s 8 8) (number_at s 16 4) (number_at s 20 4) (number_at s 24 4)

abbrev pub acknowledgement_at : List ℕ → Frame
acknowledgement_at s = Acknowledgement (number_at s 0 4) (number_at s 4 4) (number_at s 8 4) (number_at s 12 8)

abbrev pub invariants_at : List ℕ → Frame
invariants_at s = Invariants (number_at s 0 4) (number_at s 4 4) (number_at s 8 1) (number_at s 9 1) (number_at s 10 2) (number_at s 12 2)

-- by the kind's number
unfoldable pub frame_at : ℕ → List ℕ → Frame
frame_at kind s =
    choose (eqb kind 0x00) (sync_at s)
    (choose (eqb kind 0x01) (safe_read_at s)
    (choose (eqb kind 0x02) (safe_write_at s)
    (choose (eqb kind 0x03) (plain_read_at s)
    (choose (eqb kind 0x04) (plain_write_at s)
    (choose (eqb kind 0x05) (safe_response_at s)
    (choose (eqb kind 0x06) (plain_sync_response_at s)
    (choose (eqb kind 0x07) (plain_response_at s)
    (choose (eqb kind 0x08) (tid_assignment_at s)
    (choose (eqb kind 0x09) (sid_assignment_at s)
    (choose (eqb kind 0x0A) (sid_assignment4_at s)
    (choose (eqb kind 0x0B) (acknowledgement_at s)
    (invariants_at s))))))))))))

-- how many bytes the fields of a kind have, 00 to 0C
abbrev pub lengths : List ℕ
lengths = 5 ∷ 12 ∷ 12 ∷ 3 ∷ 3 ∷ 14 ∷ 4 ∷ 4 ∷ 10 ∷ 20 ∷ 28 ∷ 20 ∷ 14 ∷ []

abbrev pub fields_len : ℕ → ℕ
fields_len kind = get_or lengths kind 0

-- The frames' application data, kind by kind: tables 4 to 12 of document 000 with the readings that document 01 fixes.
-- A field is a pair: its length in bytes and its number. Assumes nothing.
use Rattle.std.specs.Prelude.{Bool, true, false, List, [], ◌∷◌, ◌++◌, ℕ, length, take, drop}
use Rattle.base.specs.Choice.{choose}
use Rattle.base.specs.Bytes.{bytes_of}
use Rattle.crc.specs.Crc.{crc_of, Safety}
use Rattle.fields.specs.Fields.{laid}
use Rattle.frame_kinds.specs.declared.kinds.Frame.{Frame}
use Rattle.frame_kinds.specs.declared.kinds.Frame.TheVariants.{Sync, SafeRead, SafeWrite, PlainRead, PlainWrite, SafeResponse, PlainSyncResponse, PlainResponse, TidAssignment, SidAssignment, SidAssignment4, Acknowledgement, Invariants}

-- the fields before the data
abbrev pub head_of : Frame → List (ℕ × ℕ)
-- table 4: TYP, SRC, CYC
head_of (Sync src cyc) = (1, 0x00) ∷ (3, src) ∷ (1, cyc) ∷ []
-- table 5: TYP, DEST, SRC, CYC, SEQ, COM, DATL, ADD
head_of (SafeRead dest src cyc seq datl add) =
    (1, 0x07) ∷ (3, dest) ∷ (3, src) ∷ (1, cyc) ∷ (1, seq) ∷ (1, 0x88) ∷ (1, datl) ∷ (1, add) ∷ []
head_of (SafeWrite dest src cyc seq datl add) =
    (1, 0x07) ∷ (3, dest) ∷ (3, src) ∷ (1, cyc) ∷ (1, seq) ∷ (1, 0x77) ∷ (1, datl) ∷ (1, add) ∷ []
-- table 6: TYP, SRC, COM, DATL, ADD
head_of (PlainRead src datl add) = (1, 0x08) ∷ (1, src) ∷ (1, 0x02) ∷ (1, datl) ∷ (1, add) ∷ []
head_of (PlainWrite src datl add) = (1, 0x08) ∷ (1, src) ∷ (1, 0x01) ∷ (1, datl) ∷ (1, add) ∷ []
-- table 7: TYP, DEST, SRC, CYC, SEQ, COM, DATL, ADD
head_of (SafeResponse dest src cyc seq «com» datl add stat) =
    (1, 0x70) ∷ (3, dest) ∷ (3, src) ∷ (1, cyc) ∷ (1, seq) ∷ (1, «com») ∷ (1, datl) ∷ (1, add) ∷ []
-- table 8: TYP, SRC, COM, DATL, ADD
head_of (PlainSyncResponse src datl add stat) = (1, 0x80) ∷ (1, src) ∷ (1, 0x01) ∷ (1, datl) ∷ (1, add) ∷ []
head_of (PlainResponse src «com» datl add) = (1, 0x80) ∷ (1, src) ∷ (1, «com») ∷ (1, datl) ∷ (1, add) ∷ []
-- table 9: TYP, SRC, IID, TID
head_of (TidAssignment src iid tid) = (1, 0x3C) ∷ (1, src) ∷ (8, iid) ∷ (1, tid) ∷ []
-- table 10: TYP, SRC, SEC, MAC, SID
head_of (SidAssignment src sec mac sid) = (1, 0xC3) ∷ (3, src) ∷ (4, sec) ∷ (8, mac) ∷ (3, sid) ∷ []
-- the SIL4 form: the second SID at 19, SRC2 at 22
head_of (SidAssignment4 src sec mac sid sid2 src2) =
    (1, 0xC3) ∷ (3, src) ∷ (4, sec) ∷ (8, mac) ∷ (3, sid) ∷ (3, sid2) ∷ (3, src2) ∷ []
-- table 11: TYP, SRC, DST, SEC, MAC
head_of (Acknowledgement src dst sec mac) = (1, 0x33) ∷ (3, src) ∷ (3, dst) ∷ (4, sec) ∷ (8, mac) ∷ []
-- table 12: TYP, DEST, SRC, CYC, SEQ, DATA (two CRCs)
head_of (Invariants dest src cyc seq config logic) =
    (1, 0xB4) ∷ (3, dest) ∷ (3, src) ∷ (1, cyc) ∷ (1, seq) ∷ (2, config) ∷ (2, logic) ∷ []

-- the fields after the data: STAT
abbrev pub tail_of : Frame → List (ℕ × ℕ)
tail_of (Sync src cyc) = []
tail_of (SafeRead dest src cyc seq datl add) = []
tail_of (SafeWrite dest src cyc seq datl add) = []
tail_of (PlainRead src datl add) = []
tail_of (PlainWrite src datl add) = []
tail_of (SafeResponse dest src cyc seq «com» datl add stat) = (1, stat) ∷ []
tail_of (PlainSyncResponse src datl add stat) = (1, stat) ∷ []
tail_of (PlainResponse src «com» datl add) = []
tail_of (TidAssignment src iid tid) = []
tail_of (SidAssignment src sec mac sid) = []
tail_of (SidAssignment4 src sec mac sid sid2 src2) = []
tail_of (Acknowledgement src dst sec mac) = []
tail_of (Invariants dest src cyc seq config logic) = []

-- the types marked safe, which end with the safety CRC
abbrev pub is_safe : Frame → Bool
is_safe (Sync src cyc) = true
is_safe (SafeRead dest src cyc seq datl add) = true
is_safe (SafeWrite dest src cyc seq datl add) = true
is_safe (PlainRead src datl add) = false
is_safe (PlainWrite src datl add) = false
is_safe (SafeResponse dest src cyc seq «com» datl add stat) = true
is_safe (PlainSyncResponse src datl add stat) = false
is_safe (PlainResponse src «com» datl add) = false
is_safe (TidAssignment src iid tid) = false
is_safe (SidAssignment src sec mac sid) = true
is_safe (SidAssignment4 src sec mac sid sid2 src2) = true
is_safe (Acknowledgement src dst sec mac) = true
is_safe (Invariants dest src cyc seq config logic) = true

-- how many data bytes a frame has: DATL in writes and responses, else none
abbrev pub data_len : Frame → ℕ
data_len (Sync src cyc) = 0
data_len (SafeRead dest src cyc seq datl add) = 0
data_len (SafeWrite dest src cyc seq datl add) = datl
data_len (PlainRead src datl add) = 0
data_len (PlainWrite src datl add) = datl
data_len (SafeResponse dest src cyc seq «com» datl add stat) = datl
data_len (PlainSyncResponse src datl add stat) = datl
data_len (PlainResponse src «com» datl add) = datl
data_len (TidAssignment src iid tid) = 0
data_len (SidAssignment src sec mac sid) = 0
data_len (SidAssignment4 src sec mac sid sid2 src2) = 0
data_len (Acknowledgement src dst sec mac) = 0
data_len (Invariants dest src cyc seq config logic) = 0

-- where they start: after the head, which is 12 bytes long in safe writes and responses and 5 in non-safe ones
unfoldable pub data_place : Frame → ℕ
data_place f = length (laid (head_of f))

-- the same for a frame that has data, by whether it is safe
abbrev pub data_start : Frame → ℕ
data_start f = choose (is_safe f) 12 5

-- the data bytes of a frame in its application data
abbrev pub data_in : Frame → List ℕ → List ℕ
data_in f s = take (data_len f) (drop (data_place f) s)

-- bytes followed by their safety CRC, high byte first
unfoldable pub sealed : List ℕ → List ℕ
sealed xs = xs ++ bytes_of 2 (crc_of Safety xs)

-- the application data of a frame with its data bytes
unfoldable pub app_of : Frame → List ℕ → List ℕ
app_of f xs = choose (is_safe f) (sealed (laid (head_of f) ++ (xs ++ laid (tail_of f)))) (laid (head_of f) ++ (xs ++ laid (tail_of f)))

-- A frame as the numbers of its line's fields, in their order, and back. Assumes nothing.
use Rattle.std.specs.Prelude.{Bool, true, false, List, [], ◌∷◌, ℕ, ◌%◌, ltb, get_or}
use Rattle.base.specs.Choice.{choose}
use Rattle.frame_kinds.specs.declared.kinds.Frame.{Frame}
use Rattle.frame_kinds.specs.declared.kinds.Frame.TheVariants.{Sync, SafeRead, SafeWrite, PlainRead, PlainWrite, SafeResponse, PlainSyncResponse, PlainResponse, TidAssignment, SidAssignment, SidAssignment4, Acknowledgement, Invariants}
use Rattle.frame_words.specs.declared.table.Kind.{Kind}
use Rattle.frame_words.specs.declared.table.Kind.TheVariants as kind

abbrev pub kind_of : Frame → Kind
kind_of (Sync src cyc) = kind.Sync
kind_of (SafeRead dest src cyc seq datl add) = kind.Read
kind_of (SafeWrite dest src cyc seq datl add) = kind.Write
kind_of (PlainRead src datl add) = kind.PlainRead
kind_of (PlainWrite src datl add) = kind.PlainWrite
kind_of (SafeResponse dest src cyc seq «com» datl add stat) = kind.Response
kind_of (PlainSyncResponse src datl add stat) = kind.PlainSyncResponse
kind_of (PlainResponse src «com» datl add) = kind.PlainResponse
kind_of (TidAssignment src iid tid) = kind.Tid
kind_of (SidAssignment src sec mac sid) = kind.Sid
kind_of (SidAssignment4 src sec mac sid sid2 src2) = kind.Sid4
kind_of (Acknowledgement src dst sec mac) = kind.Ack
kind_of (Invariants dest src cyc seq config logic) = kind.Invariants

-- the address (except of a sync) and the fields, then zeros: eight numbers
abbrev pub numbers_of : ℕ → Frame → List ℕ
numbers_of a (Sync src cyc) = src ∷ cyc ∷ 0 ∷ 0 ∷ 0 ∷ 0 ∷ 0 ∷ 0 ∷ []
numbers_of a (SafeRead dest src cyc seq datl add) = a ∷ dest ∷ src ∷ cyc ∷ seq ∷ datl ∷ add ∷ 0 ∷ []
numbers_of a (SafeWrite dest src cyc seq datl add) = a ∷ dest ∷ src ∷ cyc ∷ seq ∷ add ∷ 0 ∷ 0 ∷ []
numbers_of a (PlainRead src datl add) = a ∷ src ∷ datl ∷ add ∷ 0 ∷ 0 ∷ 0 ∷ 0 ∷ []
numbers_of a (PlainWrite src datl add) = a ∷ src ∷ add ∷ 0 ∷ 0 ∷ 0 ∷ 0 ∷ 0 ∷ []
numbers_of a (SafeResponse dest src cyc seq «com» datl add stat) = a ∷ dest ∷ src ∷ cyc ∷ seq ∷ «com» ∷ add ∷ stat ∷ []
numbers_of a (PlainSyncResponse src datl add stat) = a ∷ src ∷ add ∷ stat ∷ 0 ∷ 0 ∷ 0 ∷ 0 ∷ []
numbers_of a (PlainResponse src «com» datl add) = a ∷ src ∷ «com» ∷ add ∷ 0 ∷ 0 ∷ 0 ∷ 0 ∷ []
numbers_of a (TidAssignment src iid tid) = a ∷ src ∷ iid ∷ tid ∷ 0 ∷ 0 ∷ 0 ∷ 0 ∷ []
numbers_of a (SidAssignment src sec mac sid) = a ∷ src ∷ sec ∷ mac ∷ sid ∷ 0 ∷ 0 ∷ 0 ∷ []
numbers_of a (SidAssignment4 src sec mac sid sid2 src2) = a ∷ src ∷ sec ∷ mac ∷ sid ∷ sid2 ∷ src2 ∷ 0 ∷ []
numbers_of a (Acknowledgement src dst sec mac) = a ∷ src ∷ dst ∷ sec ∷ mac ∷ 0 ∷ 0 ∷ 0 ∷ []
numbers_of a (Invariants dest src cyc seq config logic) = a ∷ dest ∷ src ∷ cyc ∷ seq ∷ config ∷ logic ∷ 0 ∷ []

-- the low bits of a number; the digits of a field never give more
abbrev pub low8 : ℕ → ℕ
low8 n = n % 0x100

abbrev pub low16 : ℕ → ℕ
low16 n = n % 0x10000

abbrev pub low32 : ℕ → ℕ
low32 n = n % 0x100000000

-- the frame of a kind with these numbers; `datl` is its DATL if the line has data=
abbrev pub frame_of : Kind → List ℕ → ℕ → Frame
frame_of kind.Sync vs datl = Sync (low32 (get_or vs 0 0)) (low8 (get_or vs 1 0))
frame_of kind.Read vs datl = SafeRead (low32 (get_or vs 1 0)) (low32 (get_or vs 2 0)) (low8 (get_or vs 3 0)) (low8 (get_or vs 4 0)) (low8 (get_or vs 5 0)) (low8 (get_or vs 6 0))
frame_of kind.Write vs datl = SafeWrite (low32 (get_or vs 1 0)) (low32 (get_or vs 2 0)) (low8 (get_or vs 3 0)) (low8 (get_or vs 4 0)) datl (low8 (get_or vs 5 0))
frame_of kind.PlainRead vs datl = PlainRead (low8 (get_or vs 1 0)) (low8 (get_or vs 2 0)) (low8 (get_or vs 3 0))
frame_of kind.PlainWrite vs datl = PlainWrite (low8 (get_or vs 1 0)) datl (low8 (get_or vs 2 0))
frame_of kind.Response vs datl = SafeResponse (low32 (get_or vs 1 0)) (low32 (get_or vs 2 0)) (low8 (get_or vs 3 0)) (low8 (get_or vs 4 0)) (low8 (get_or vs 5 0)) datl (low8 (get_or vs 6 0)) (low8 (get_or vs 7 0))
frame_of kind.PlainSyncResponse vs datl = PlainSyncResponse (low8 (get_or vs 1 0)) datl (low8 (get_or vs 2 0)) (low8 (get_or vs 3 0))
frame_of kind.PlainResponse vs datl = PlainResponse (low8 (get_or vs 1 0)) (low8 (get_or vs 2 0)) datl (low8 (get_or vs 3 0))
frame_of kind.Tid vs datl = TidAssignment (low8 (get_or vs 1 0)) (get_or vs 2 0) (low8 (get_or vs 3 0))
frame_of kind.Sid vs datl = SidAssignment (low32 (get_or vs 1 0)) (low32 (get_or vs 2 0)) (get_or vs 3 0) (low32 (get_or vs 4 0))
frame_of kind.Sid4 vs datl = SidAssignment4 (low32 (get_or vs 1 0)) (low32 (get_or vs 2 0)) (get_or vs 3 0) (low32 (get_or vs 4 0)) (low32 (get_or vs 5 0)) (low32 (get_or vs 6 0))
frame_of kind.Ack vs datl = Acknowledgement (low32 (get_or vs 1 0)) (low32 (get_or vs 2 0)) (low32 (get_or vs 3 0)) (get_or vs 4 0)
frame_of kind.Invariants vs datl = Invariants (low32 (get_or vs 1 0)) (low32 (get_or vs 2 0)) (low8 (get_or vs 3 0)) (low8 (get_or vs 4 0)) (low16 (get_or vs 5 0)) (low16 (get_or vs 6 0))

-- a sync has no to=: its address is FFh
abbrev pub has_address : Kind → Bool
has_address kind.Sync = false
has_address kind.Read = true
has_address kind.Write = true
has_address kind.PlainRead = true
has_address kind.PlainWrite = true
has_address kind.Response = true
has_address kind.PlainSyncResponse = true
has_address kind.PlainResponse = true
has_address kind.Tid = true
has_address kind.Sid = true
has_address kind.Sid4 = true
has_address kind.Ack = true
has_address kind.Invariants = true

abbrev pub address_of : Kind → List ℕ → ℕ
address_of k vs = choose (has_address k) (low8 (get_or vs 0 0)) 0xFF

-- DATL for n data bytes; 255 if there are more
abbrev pub datl_of : ℕ → ℕ
datl_of n = choose (ltb 255 n) 255 n

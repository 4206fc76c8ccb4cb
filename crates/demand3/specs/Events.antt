-- What a call and its answer amount to, from the call and the answer alone: a body is read by the reader of frames, and
-- the answer says whether it was accepted. Assumes nothing.
use Rattle.std.specs.Prelude.{Bool, false, List, ℕ, eqb, Ok, Err}
use Rattle.base.specs.Choice.{choose}
use Rattle.frame_kinds.specs.Kinds.{data_in}
use Rattle.frame_reading.specs.Reading.{ReadFrame, read_frame}
use Rattle.frame_kinds.specs.declared.kinds.Frame.{Frame}
use Rattle.frame_kinds.specs.declared.kinds.Frame.TheVariants.{Sync, SafeRead, SafeWrite, PlainRead, PlainWrite, SafeResponse, PlainSyncResponse, PlainResponse, TidAssignment, SidAssignment, SidAssignment4, Acknowledgement, Invariants}
use Rattle.rules.specs.Calls.{Call, tick, frame}
use Rattle.rules.specs.Requests.{Ask, reads, writes}
use Rattle.demand3.specs.Numbers.{is_accepted, outside_rules, outside_window, writes_release, writes_fallback, writes_within_outputs}

-- a safe request: DEST, SRC, CYC, SEQ and what it asks for
pub record Request : Type 0 where
  pub dest : ℕ
  pub src : ℕ
  pub cyc : ℕ
  pub seq : ℕ
  pub ask : Ask

pub data Event : Type 0 where
  a_tick : Event
  -- an accepted sync: SRC and CYC
  a_sync : (src cyc : ℕ) → Event
  -- a sync refused with 22: outside its window
  a_missed_sync : Event
  -- a safe request answered 0
  a_request : Request → Event
  -- a safe request answered 16: taken too
  a_refused_write : Request → Event
  -- an accepted SID assignment: the SID it gives
  an_assignment : (sid : ℕ) → Event
  -- any other call, and any other answer
  nothing : Event

abbrev pub of_request : Request → ℕ → Event
of_request r n = choose (is_accepted n) (a_request r) (choose (eqb n outside_rules) (a_refused_write r) nothing)

-- a frame with its data, and the answer
abbrev pub of_frame : Frame → List ℕ → ℕ → Event
of_frame (Sync src cyc) xs n = choose (is_accepted n) (a_sync src cyc) (choose (eqb n outside_window) a_missed_sync nothing)
of_frame (SafeRead dest src cyc seq datl add) xs n =
    of_request (record { dest = dest; src = src; cyc = cyc; seq = seq; ask = reads datl add }) n
of_frame (SafeWrite dest src cyc seq datl add) xs n =
    of_request (record { dest = dest; src = src; cyc = cyc; seq = seq; ask = writes add xs }) n
of_frame (SidAssignment src sec mac sid) xs n = choose (is_accepted n) (an_assignment sid) nothing
of_frame (PlainRead src datl add) xs n = nothing
of_frame (PlainWrite src datl add) xs n = nothing
of_frame (SafeResponse dest src cyc seq kind datl add stat) xs n = nothing
of_frame (PlainSyncResponse src datl add stat) xs n = nothing
of_frame (PlainResponse src kind datl add) xs n = nothing
of_frame (TidAssignment src iid tid) xs n = nothing
of_frame (SidAssignment4 src sec mac sid sid2 src2) xs n = nothing
of_frame (Acknowledgement src dst sec mac) xs n = nothing
of_frame (Invariants dest src cyc seq config logic) xs n = nothing

abbrev pub of_received : ReadFrame → ℕ → Event
of_received (Ok (a, f, s)) n = of_frame f (data_in f s) n
of_received (Err e) n = nothing

-- a tick is a tick call answered 0; every tick counts
unfoldable pub event_of : Call → ℕ → Event
event_of (tick xs) n = choose (is_accepted n) a_tick nothing
event_of (frame port body room) n = of_received (read_frame body) n

-- whether a request is a release order, an order to fall back, an output write
abbrev pub orders_release : Ask → Bool
orders_release (reads datl add) = false
orders_release (writes add xs) = writes_release add xs

abbrev pub orders_fallback : Ask → Bool
orders_fallback (reads datl add) = false
orders_fallback (writes add xs) = writes_fallback add xs

abbrev pub writes_outputs : Ask → Bool
writes_outputs (reads datl add) = false
writes_outputs (writes add xs) = writes_within_outputs add xs

-- The frame call: numbers 1 to 9, then what the kind of frame does. Assumes nothing.
use Rattle.std.specs.Prelude.{Bool, true, false, ◌&&◌, ◌||◌, List, ℕ, eqb, length, Ok, Err}
use Rattle.base.specs.Choice.{choose}
use Rattle.base.specs.Bytes.{number_at}
use Rattle.wire.specs.Body as wire
use Rattle.wire.specs.Body.{ReadBody, read_body}
use Rattle.wire.specs.declared.LineFault.{LineFault}
use Rattle.wire.specs.declared.LineFault.TheVariants as line
use Rattle.frame_kinds.specs.Kinds.{data_in}
use Rattle.frame_forms.specs.Forms as forms
use Rattle.frame_forms.specs.Forms.{Read}
use Rattle.frame_forms.specs.declared.FrameFault.TheVariants.{Kind, Form, Check}
use Rattle.frame_reading.specs.Reading.{read_app}
use Rattle.frame_kinds.specs.declared.kinds.Frame.{Frame}
use Rattle.frame_kinds.specs.declared.kinds.Frame.TheVariants.{Sync, SafeRead, SafeWrite, PlainRead, PlainWrite, SafeResponse, PlainSyncResponse, PlainResponse, TidAssignment, SidAssignment, SidAssignment4, Acknowledgement, Invariants}
use Rattle.rules.specs.Answers.{elsewhere, typ, form}
use Rattle.rules.specs.Assignments.{on_tid, on_sid}
use Rattle.rules.specs.Marks.{line_marked, format_marked}
use Rattle.rules.specs.Registers.{tid_at}
use Rattle.rules.specs.Replies.{Deed, does}
use Rattle.rules.specs.Requests.{reads, writes, on_request}
use Rattle.rules.specs.State.{reg}
use Rattle.rules.specs.Sync.{on_sync}
use Rattle.rules.specs.declared.Agent.{Agent}

-- by the kind of frame, with its data. The kinds that are not served are 7 with its mark, and the SIL4 assignment is 8;
-- but `agent_read` has refused these already: it yields only frames that `serves` names (proofs/ServedFrames)
abbrev pub on_kind : ℕ → Agent → Frame → List ℕ → Deed
on_kind port a (Sync src cyc) xs = on_sync port a src cyc
on_kind port a (SafeRead dest src cyc seq datl add) xs = on_request port a dest src cyc seq (reads datl add)
on_kind port a (SafeWrite dest src cyc seq datl add) xs = on_request port a dest src cyc seq (writes add xs)
on_kind port a (TidAssignment src iid tid) xs = on_tid a iid tid
on_kind port a (SidAssignment src sec mac sid) xs = on_sid a src sec mac sid
on_kind port a (PlainRead src datl add) xs = does typ (format_marked a)
on_kind port a (PlainWrite src datl add) xs = does typ (format_marked a)
on_kind port a (SafeResponse dest src cyc seq kind datl add stat) xs = does typ (format_marked a)
on_kind port a (PlainSyncResponse src datl add stat) xs = does typ (format_marked a)
on_kind port a (PlainResponse src kind datl add) xs = does typ (format_marked a)
on_kind port a (SidAssignment4 src sec mac sid sid2 src2) xs = does form a
on_kind port a (Acknowledgement src dst sec mac) xs = does typ (format_marked a)
on_kind port a (Invariants dest src cyc seq config logic) xs = does typ (format_marked a)

-- the frames that this module serves: sync, safe request, TID assignment, SID assignment (SIL2)
abbrev pub serves : Frame → Bool
serves (Sync src cyc) = true
serves (SafeRead dest src cyc seq datl add) = true
serves (SafeWrite dest src cyc seq datl add) = true
serves (TidAssignment src iid tid) = true
serves (SidAssignment src sec mac sid) = true
serves (PlainRead src datl add) = false
serves (PlainWrite src datl add) = false
serves (SafeResponse dest src cyc seq kind datl add stat) = false
serves (PlainSyncResponse src datl add stat) = false
serves (PlainResponse src kind datl add) = false
serves (SidAssignment4 src sec mac sid sid2 src2) = false
serves (Acknowledgement src dst sec mac) = false
serves (Invariants dest src cyc seq config logic) = false

-- the TYPs that are served: 00h, 07h, 3Ch, C3h
unfoldable pub served : ℕ → Bool
served kind = eqb kind 0x00 || eqb kind 0x07 || eqb kind 0x3C || eqb kind 0xC3

-- a SIL4 assignment is 8 for this module
abbrev pub is_sil4 : List ℕ → Bool
is_sil4 s = eqb (number_at s 0 1) 0xC3 && eqb (length s) 27

-- application data as this module reads them
unfoldable pub agent_read : ℕ → List ℕ → Read
agent_read addr s = choose (served (number_at s 0 1)) (choose (is_sil4 s) (Err Form) (read_app addr s)) (Err Kind)

-- 7, 8, 9, then the kind
abbrev pub on_read : ℕ → Agent → Read → List ℕ → Deed
on_read port a (Ok f) s = on_kind port a f (data_in f s)
on_read port a (Err Kind) s = does (forms.number_of Kind) (format_marked a)
on_read port a (Err Form) s = does (forms.number_of Form) a
on_read port a (Err Check) s = does (forms.number_of Check) a

-- 6 unless the address is the own TID, 90h or FFh
abbrev pub is_own : Agent → ℕ → Bool
is_own a addr = eqb addr (reg a tid_at) || eqb addr 0x90 || eqb addr 0xFF

unfoldable pub on_app : ℕ → Agent → ℕ → List ℕ → Deed
on_app port a addr s = choose (is_own a addr) (on_read port a (agent_read addr s) s) (does elsewhere a)

-- 1 to 4 are the line's, 5 another station's
abbrev pub on_fault : Agent → LineFault → Deed
on_fault a line.Length = does (wire.number_of line.Length) (line_marked a)
on_fault a line.Stuffing = does (wire.number_of line.Stuffing) (line_marked a)
on_fault a line.Size = does (wire.number_of line.Size) (line_marked a)
on_fault a line.Check = does (wire.number_of line.Check) (line_marked a)
on_fault a line.Reserved = does (wire.number_of line.Reserved) a

unfoldable pub on_body : ℕ → Agent → ReadBody → Deed
on_body port a (Ok b) = on_app port a b.0 b.1
on_body port a (Err e) = on_fault a e

-- a body received on a port
unfoldable pub on_frame : ℕ → Agent → List ℕ → Deed
on_frame port a body = on_body port a (read_body body)

-- Replies: built after the effect, and sent. Assumes nothing.
use Rattle.std.specs.Prelude.{Bool, Option, Some, None, ◌||◌, List, [], ℕ, ◌+◌, ◌-◌, ◌%◌, eqb, ltb, take, drop, set}
use Rattle.std.specs.Int.Bits.{bit_and, bit_or}
use Rattle.base.specs.Choice.{choose}
use Rattle.frame_writing.specs.Writing.{frame_line}
use Rattle.frame_kinds.specs.declared.kinds.Frame.{Frame}
use Rattle.frame_kinds.specs.declared.kinds.Frame.TheVariants.{Sync, SafeRead, SafeWrite, PlainRead, PlainWrite, SafeResponse, PlainSyncResponse, PlainResponse, TidAssignment, SidAssignment, SidAssignment4, Acknowledgement, Invariants}
use Rattle.rules.specs.Registers.{mac_at, statut, ad_ref, sz_ref, conf, low_number}
use Rattle.rules.specs.Sources.{sid_of}
use Rattle.rules.specs.State.{reg, store}
use Rattle.rules.specs.declared.Agent.{Agent}

-- what a frame does: the answer, the agent afterwards, and what is to be sent, if anything
pub record Deed : Type 0 where
  pub answer : ℕ
  pub agent : Agent
  pub reply : Option Frame

-- what a call does in the end; `line` is the bytes that were sent, none if nothing was
pub record Outcome : Type 0 where
  pub answer : ℕ
  pub agent : Agent
  pub line : List ℕ

abbrev pub does : ℕ → Agent → Deed
does n a = record { answer = n; agent = a; reply = None }

abbrev pub replies : Agent → Frame → Deed
replies a f = record { answer = 0; agent = a; reply = Some f }

abbrev pub outcome : ℕ → Agent → Outcome
outcome n a = record { answer = n; agent = a; line = [] }

-- STAT is STATUT with bit 6 set for port 2
abbrev pub stat_of : ℕ → Agent → ℕ
stat_of port a = choose (eqb port 2) (bit_or (reg a statut) 0x40) (reg a statut)

-- a safe response of the module to the source of a frame
abbrev pub response : ℕ → Agent → ℕ → ℕ → ℕ → ℕ → ℕ → Frame
response port a dest seq kind n add = SafeResponse dest (sid_of a) a.cycle seq kind n add (stat_of port a)

-- to a sync: COM 07h with SZ_REF bytes from AD_REF; error AAh if SZ_REF is 0 or 255 or AD_REF + SZ_REF exceeds 256;
-- SEQ is the complement of CYC
unfoldable pub sync_reply : ℕ → Agent → ℕ → ℕ → Deed
sync_reply port a src cyc =
    choose (eqb (reg a sz_ref) 0 || eqb (reg a sz_ref) 255 || ltb 256 (reg a ad_ref + reg a sz_ref))
    (replies a (response port a src (255 - cyc) 0xAA 0 (reg a ad_ref)))
    (replies a (response port a src (255 - cyc) 0x07 (reg a sz_ref) (reg a ad_ref)))

-- to a read: COM 70h; error 55h unless DATL is 1 to 254 and ADD + DATL at most 256; SEQ is the request's plus one
unfoldable pub read_reply : ℕ → Agent → ℕ → ℕ → ℕ → ℕ → Deed
read_reply port a src seq datl add =
    choose (eqb datl 0 || eqb datl 255 || ltb 256 (add + datl))
    (replies a (response port a src ((seq + 1) % 256) 0x55 0 add))
    (replies a (response port a src ((seq + 1) % 256) 0x70 datl add))

-- to a SID assignment
unfoldable pub acknowledges : Agent → ℕ → ℕ → Deed
acknowledges a src sec = replies a (Acknowledgement (sid_of a) src sec (low_number a.regs mac_at 8))

-- replies go to F0h; after a sent reply STATUT keeps only bit 7; with CONF bit 2 set nothing is sent, but effects remain
abbrev pub muted : Agent → Bool
muted a = eqb (bit_and (reg a conf) 0x04) 0x04

-- the data bytes of a reply: DATL registers starting at ADD; 19h shows STAT
abbrev pub reply_data : Agent → Frame → List ℕ
reply_data a (SafeResponse dest src cyc seq kind datl add stat) = take datl (drop add (set a.regs statut stat))
reply_data a (Sync src cyc) = []
reply_data a (SafeRead dest src cyc seq datl add) = []
reply_data a (SafeWrite dest src cyc seq datl add) = []
reply_data a (PlainRead src datl add) = []
reply_data a (PlainWrite src datl add) = []
reply_data a (PlainSyncResponse src datl add stat) = []
reply_data a (PlainResponse src kind datl add) = []
reply_data a (TidAssignment src iid tid) = []
reply_data a (SidAssignment src sec mac sid) = []
reply_data a (SidAssignment4 src sec mac sid sid2 src2) = []
reply_data a (Acknowledgement src dst sec mac) = []
reply_data a (Invariants dest src cyc seq config logic) = []

unfoldable pub send_frame : Frame → ℕ → Agent → Outcome
send_frame f n a =
    choose (muted a) (outcome n a)
    (record { answer = n; agent = store statut (bit_and (reg a statut) 0x80) a; line = frame_line 0xF0 f (reply_data a f) })

abbrev pub send_reply : Option Frame → ℕ → Agent → Outcome
send_reply None n a = outcome n a
send_reply (Some f) n a = send_frame f n a

unfoldable pub sent : Deed → Outcome
sent d = send_reply d.reply d.answer d.agent

-- What a call sends fits the reply buffer that document 01 asks for: a reply carries at most 254 data bytes. Assumes nothing.
use mathlib.Core.Bool.{Bool, not, ◌||◌}
use mathlib.Core.List.{List, []}
use mathlib.Core.Path.{◌≡◌, refl}
use Prim.Native.Nat.{ℕ, ◌≤◌}
use native.Mathlib.Omega.{arith}
use borrow.Author.Tests.{eqb-false, not-false}
use lib.Dec.{eqb, ltb}
use lib.ListN.{length}
use Rattle.base.specs.Bytes.{Bytes}
use Rattle.base.specs.Choice.{choose}
use Rattle.base.proofs.Choosing.{by_test, or_left_false, or_right_false}
use Rattle.std.specs.Prelude.{Ok, Err}
use Rattle.wire.specs.Body.{ReadBody, read_body, fcs_of}
use Rattle.wire.specs.declared.LineFault.TheVariants as line
use Rattle.wire.proofs.ReadBytes.{data_bytes}
use Rattle.laying.proofs.LayingLaws.{line_most}
use Rattle.frame_kinds.specs.Kinds.{app_of}
use Rattle.frame_kinds.specs.declared.kinds.Frame.{Frame}
use Rattle.frame_kinds.specs.declared.kinds.Frame.TheVariants.{Sync, SafeRead, SafeWrite, PlainRead, PlainWrite, SafeResponse, PlainSyncResponse, PlainResponse, TidAssignment, SidAssignment, SidAssignment4, Acknowledgement, Invariants}
use Rattle.frame_kinds.proofs.Parts.{app_length}
use Rattle.frame_forms.specs.Forms.{Read}
use Rattle.frame_forms.specs.declared.FrameFault.TheVariants.{Kind, Form, Check}
use Rattle.frame_writing.proofs.Fits.{FittingFrame}
use Rattle.rules.specs.Assignments.{on_tid, on_first_sid, on_later_sid, on_sid}
use Rattle.rules.specs.Calls.{least_room, tick_call, frame_call, Call, tick, frame, act}
use Rattle.rules.specs.FrameCall.{agent_read, on_kind, on_read, is_own, on_app, on_body, on_frame}
use Rattle.rules.specs.Good.{Good, BytesCall}
use Rattle.rules.specs.Registers.{mac_at, sz_ref, image, low_number}
use Rattle.rules.specs.Replies.{Deed, Outcome, acknowledges, muted, reply_data, send_frame, sent}
use Rattle.rules.specs.Requests.{on_distance, on_request}
use Rattle.rules.specs.Sound.{sound}
use Rattle.rules.specs.Sources.{is_recorded, sid_of}
use Rattle.rules.specs.State.{nobody}
use Rattle.rules.specs.Sync.{synced, on_sync}
use Rattle.rules.specs.Writes.{on_write}
use Rattle.rules.specs.declared.Agent.{Agent}
use Rattle.rules.proofs.GoodNext.{good_parts}
use Rattle.rules.proofs.Hearing.{good_synced}
use Rattle.rules.proofs.Kept.{GoodTo}
use Rattle.rules.proofs.ReadFits.{read_fitting}
use Rattle.rules.proofs.ServedFrames.{reads_frame}
use Rattle.rules.proofs.ShortReplies.{Short, silent, says, sync_short, read_short}

-- ---- what fits

abbrev Fits : Outcome → Type 0
Fits o = length o.line ≤ least_room

-- what is short fits, even if each byte of it is stuffed
short_fits : {d : Deed} → Short d → Fits (sent d)
unfolding sent send_frame
short_fits silent = omega arith
short_fits (says a f h) =
    let ys : List ℕ = app_of f (reply_data a f) in
    by_test Fits (muted a) (λ e. omega arith) (λ e. omega (arith, line_most (fcs_of 0xF0 ys) 0xF0 ys))

acknowledged_short : (a : Agent) (src sec : ℕ) → Short (acknowledges a src sec)
unfolding acknowledges
acknowledged_short a src sec =
    let f : Frame = Acknowledgement (sid_of a) src sec (low_number a.regs mac_at 8) in
    says a f (omega (arith, app_length f [] refl))

-- ---- the rules taken apart

-- whichever way a test goes
either : (b : Bool) {x y : Deed} → Short x → Short y → Short (choose b x y)
either b s t = by_test Short b (λ e. s) (λ e. t)

module _ (port : ℕ) {a : Agent} (g : GoodTo 254 a) where
  on_sync_lem : (src cyc : ℕ) → Short (on_sync port a src cyc)
  unfolding on_sync is_recorded
  on_sync_lem src cyc =
      by_test Short (eqb src nobody || not (is_recorded a src)) (λ e. silent)
      (λ e. let known = not-false _ (or_right_false (eqb src nobody) _ e) in
      let after = good_synced a src cyc g known (eqb-false src nobody (or_left_false (eqb src nobody) _ e)) in
      search (either, silent, sync_short port (synced src cyc a) src cyc (after.registers.are_bytes sz_ref)))

  on_kind_lem : (f : Frame) (xs : List ℕ) → FittingFrame f → Short (on_kind port a f xs)
  unfolding on_request on_distance on_write on_tid on_sid on_first_sid on_later_sid
  on_kind_lem (Sync src cyc) xs h = on_sync_lem src cyc
  on_kind_lem (SafeRead dest src cyc seq datl add) xs h = search (either, silent, read_short, arith) depth 7
  on_kind_lem (SafeWrite dest src cyc seq datl add) xs h = search (either, silent) depth 8
  on_kind_lem (TidAssignment src iid tid) xs h = search (either, silent)
  on_kind_lem (SidAssignment src sec mac sid) xs h = search (either, silent, acknowledged_short) depth 7
  on_kind_lem (PlainRead src datl add) xs h = silent
  on_kind_lem (PlainWrite src datl add) xs h = silent
  on_kind_lem (SafeResponse dest src cyc seq kind datl add stat) xs h = silent
  on_kind_lem (PlainSyncResponse src datl add stat) xs h = silent
  on_kind_lem (PlainResponse src kind datl add) xs h = silent
  on_kind_lem (SidAssignment4 src sec mac sid sid2 src2) xs h = silent
  on_kind_lem (Acknowledgement src dst sec mac) xs h = silent
  on_kind_lem (Invariants dest src cyc seq config logic) xs h = silent

  module _ (body : List ℕ) (b : Bytes body) where
    on_read_lem : (addr : ℕ) (s : List ℕ) → Bytes s → (r : Read) → agent_read addr s ≡ r → Short (on_read port a r s)
    on_read_lem addr s h (Ok f) e = on_kind_lem f _ (read_fitting addr s f h (reads_frame addr s f e))
    on_read_lem addr s h (Err Kind) e = silent
    on_read_lem addr s h (Err Form) e = silent
    on_read_lem addr s h (Err Check) e = silent

    on_body_lem : (r : ReadBody) → read_body body ≡ r → Short (on_body port a r)
    unfolding on_app on_body
    on_body_lem (Ok (addr, s)) e = either (is_own a addr) (on_read_lem addr s (data_bytes body addr s b e) (agent_read addr s) refl) silent
    on_body_lem (Err line.Length) e = silent
    on_body_lem (Err line.Stuffing) e = silent
    on_body_lem (Err line.Size) e = silent
    on_body_lem (Err line.Check) e = silent
    on_body_lem (Err line.Reserved) e = silent

-- whatever a call on a good agent sends is at most 545 bytes, flags and stuffing included: the length that document 01
-- asks of the reply buffer
pub sent_most : (a : Agent) (call : Call) → Good a → BytesCall call → length (act a call).line ≤ least_room
unfolding tick_call frame_call on_frame
sent_most a (tick xs) g b =
    by_test Fits (sound a) (λ e. by_test Fits (eqb (length xs) image) (λ h. omega arith) (λ h. omega arith)) (λ e. omega arith)
sent_most a (frame port body room) g b =
    by_test Fits (sound a)
    (λ e. by_test Fits (ltb room least_room) (λ h. omega arith)
    (λ h. by_test Fits (eqb port 1 || eqb port 2) (λ p. short_fits (on_body_lem port (good_parts a g) body b (read_body body) refl)) (λ p. omega arith)))
    (λ e. omega arith)

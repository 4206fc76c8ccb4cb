-- What a call does: each case of the rules is one of the effects. Assumes nothing.
use mathlib.Core.Bool.{true, not, ◌&&◌}
use mathlib.Core.Path.{◌≡◌, refl, sym, ap, ◌∙◌}
use mathlib.Core.List.{List, [], ◌∷◌}
use Prim.Native.Nat.{ℕ, ◌^◌, ◌<◌}
use borrow.Author.Tests.{ltb-true}
use lib.ListN.{length}
use lib.Seq.{length-sets}
use Rattle.base.proofs.Choosing.{never, choose_true, and_left, and_right}
use Rattle.std.specs.Prelude.{Ok}
use Rattle.wire.specs.Body.{read_body}
use Rattle.frame_kinds.specs.Kinds.{data_in}
use Rattle.frame_writing.specs.Writing.{is24, fields_fit, fits}
use Rattle.frame_kinds.specs.declared.kinds.Frame.{Frame}
use Rattle.frame_kinds.specs.declared.kinds.Frame.TheVariants.{SidAssignment}
use Rattle.rules.specs.Calls.{Call, tick, frame, act}
use Rattle.rules.specs.FrameCall.{agent_read}
use Rattle.rules.specs.Good.{Good, BytesCall}
use Rattle.rules.specs.Inputs.{with_inputs}
use Rattle.rules.specs.Refusals.{is_sync, read_of, reads_sync, skips_by, skips_read}
use Rattle.rules.specs.Registers.{inputs_at, tid_at}
use Rattle.rules.specs.Replies.{Deed, Outcome}
use Rattle.rules.specs.Requests.{distance, reads, writes}
use Rattle.rules.specs.State.{running, store}
use Rattle.rules.specs.Writes.{span_of}
use Rattle.rules.specs.declared.Agent.{Agent}
use Rattle.rules.proofs.Cases.{is_hosts, Accepts, heard, read, wrote, renamed, first, again, later, KindCase, refuses, fell, missed, outside, accepts, FrameCase, unread, read_as, CallCase, unsoundly, hosts, ticks, frames, call_case}
use Rattle.demand3.specs.Events.{event_of}
use Rattle.demand3.specs.Numbers.{is_accepted, accepted, outside_rules, outside_window}
use Rattle.demand3.proofs.AgentViews.{agree_refl, apart_view, named_view, recorded_view}
use Rattle.demand3.proofs.Effects.{Told, told, takes, named, asked, taken_only, named_first, acknowledged, Step}
use Rattle.demand3.proofs.FrameEvents.{Unheeded, unheeded, Carries, carries, wrong_sync, sync_brings_none}
use Rattle.demand3.proofs.RegisterViews.{apart_inputs, apart_tid}
use Rattle.demand3.proofs.RequestDid.{in_reach, is_laid}
use Rattle.demand3.proofs.Steps.{Leaves, Shown, not_heeded, after_reply, keeps, refused}
use Rattle.demand3.proofs.SyncDid.{synced_did, fell_did, missed_did}
use Rattle.demand3.proofs.TickDid.{tick_did}
use Rattle.demand3.proofs.Views.{view_of}
use Rattle.demand3.proofs.WriteDid.{taken_view, span_did}

-- a SID in a frame has 24 bits
sid_small : (address src sec mac sid n : ℕ) → fits address (SidAssignment src sec mac sid) n ≡ true → sid < 256 ^ 3
unfolding fits fields_fit
sid_small address src sec mac sid n e = ltb-true sid (256 ^ 3) (and_right (is24 src) (is24 sid) (and_left (is24 src && is24 sid) _ e))

module _ {a : Agent} (good : Good a) where
  -- ---- a frame, whatever the call that brought it
  module _ {call : Told} where
    -- accepted with any number that accepts
    accepted_did : {f : Frame} {xs : List ℕ} {b : Agent} (n : ℕ) → is_accepted n ≡ true → Carries call f xs → Accepts a f xs b → Leaves a call n b
    accepted_did n ok c (heard k) = synced_did good call n (c.amounts n ∙ choose_true _ _ ok) k
    accepted_did n ok c (read {cyc = cyc} {seq = seq} {datl = datl} {add = add} p) =
        let d : ℕ = distance seq cyc in
        record { view = takes d (view_of a); did = asked _ (c.amounts n ∙ choose_true _ _ ok) (in_reach p (reads datl add) c.sized.3) (record { no_write = refl; none_covered = λ i b. refl }); shows = taken_view d a }
    accepted_did n ok c (wrote {add = add} {xs = xs} p e) =
        span_did a good call n ok _ (c.amounts n ∙ choose_true _ _ ok) (in_reach p (writes add xs) c.sized.3) add xs refl (is_laid c) (span_of add (length xs)) refl e
    accepted_did n ok c (renamed {tid = tid} e) = keeps n (store tid_at tid a) (c.amounts n) (apart_view tid_at (tid ∷ []) a apart_tid)
    accepted_did n ok c (first {src = src} {sec = sec} {mac = mac} {sid = sid} {xs = xs} s none i) = record {
      view = named sid (view_of a);
      did = named_first sid (c.amounts n ∙ choose_true _ _ ok) (ap not none);
      shows = named_view a src sid good.registers (sid_small c.address src sec mac sid (length xs) c.fit);
    }
    accepted_did n ok c (again {sid = sid} some) =
        record { view = view_of a; did = acknowledged sid (c.amounts n ∙ choose_true _ _ ok) (ap not some); shows = agree_refl (view_of a) }
    accepted_did n ok c (later {src = src} {sid = sid} s some i e) =
        record { view = view_of a; did = acknowledged sid (c.amounts n ∙ choose_true _ _ ok) (ap not some); shows = recorded_view a src some }

    kind_did : {f : Frame} {xs : List ℕ} {d : Deed} → Unheeded call → Carries call f xs → KindCase a f xs d → Shown a call d
    kind_did {f = f} u c (refuses n h) = refused u (is_sync f && running a) (skips_by a f) n h
    kind_did u c (fell e) = fell_did good call u (sync_brings_none c) (wrong_sync c)
    kind_did u c (missed e) = missed_did good call (c.amounts outside_window) (sync_brings_none c)
    kind_did u c (outside {cyc = cyc} {seq = seq} {add = add} {xs = xs} p) =
        let d : ℕ = distance seq cyc in
        record { view = takes d (view_of a); did = taken_only _ (c.amounts outside_rules) (in_reach p (writes add xs) c.sized.3); shows = taken_view d a }
    kind_did u c (accepts e) = accepted_did accepted refl c e

    pub frame_did : {body : List ℕ} {d : Deed} → Unheeded call
        → ((addr : ℕ) (s : List ℕ) (f : Frame) → read_body body ≡ Ok (addr, s) → agent_read addr s ≡ Ok f → Carries call f (data_in f s))
        → FrameCase a body d → Shown a call d
    frame_did {body = body} u c (unread n h) = refused u (reads_sync (read_of body) && running a) (skips_read a (read_of body)) n h
    frame_did u c (read_as f v e k) = kind_did u (c _ _ f v e) k

  -- ---- the calls
  call_did : {call : Call} {o : Outcome} → BytesCall call → CallCase a call o → Step a (told call) o
  unfolding event_of with_inputs
  call_did b (unsoundly e) = never (sym e ∙ good.sound_is)
  call_did {call = call} b (hosts n h) = keeps n a (unheeded call n (not_heeded is_hosts n h refl refl refl)) (agree_refl (view_of a))
  call_did b (ticks {xs = xs} e) =
      tick_did a (with_inputs xs a) (apart_view inputs_at xs a (apart_inputs (length xs))) (told (tick xs)) accepted refl
      (length-sets a.regs inputs_at xs ∙ good.registers)
  call_did b (frames {port = port} {room = room} {body = body} {d = d} c) =
      after_reply d (frame_did (unheeded (frame port body room)) (λ addr s f v e. carries port body room addr s f b v e) c)

-- ---- every call on a good agent is one of the effects
pub step_did : (a : Agent) (call : Call) → Good a → BytesCall call → Step a (told call) (act a call)
step_did a call good bytes = call_did good bytes (call_case a call)

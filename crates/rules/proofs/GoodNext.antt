-- From power-up on, every call leaves a good agent. Assumes nothing.
use mathlib.Core.Bool.{◌&&◌}
use mathlib.Core.List.{List}
use mathlib.Core.Path.{◌≡◌, refl, sym, subst}
use Prim.Native.Nat.{ℕ, ◌+◌, ◌-◌, ◌^◌, ◌≤◌, ◌<◌}
use native.Mathlib.Omega.{arith}
use borrow.Author.Tests.{eqb-true, eqb-false}
use lib.ListN.{length, drop}
use Rattle.base.specs.Bytes.{Bytes}
use Rattle.base.proofs.Bytes.{bytes_take, bytes_drop}
use Rattle.wire.proofs.ReadBytes.{data_bytes}
use Rattle.frame_kinds.specs.Kinds.{data_len, data_place}
use Rattle.frame_kinds.specs.declared.kinds.Frame.{Frame}
use Rattle.frame_writing.proofs.Fits.{FittingFrame}
use Rattle.rules.specs.Calls.{Call, act}
use Rattle.rules.specs.Fixed.{limit_of}
use Rattle.rules.specs.Good.{Good, BytesCall}
use Rattle.rules.specs.Grounds.{by_wrong_cycle}
use Rattle.rules.specs.Inputs.{with_inputs}
use Rattle.rules.specs.Marks.{sequence_marked, skip_marked}
use Rattle.rules.specs.Refusals.{request_taken, read_of, is_sync, reads_sync, skips_by, skips_read}
use Rattle.rules.specs.Replies.{Deed, Outcome}
use Rattle.rules.specs.Requests.{distance}
use Rattle.rules.specs.Sources.{is_recorded}
use Rattle.rules.specs.State.{nobody, running}
use Rattle.rules.specs.Writes.{span_of}
use Rattle.rules.specs.declared.Agent.{Agent}
use Rattle.rules.specs.declared.Fixed.{Fixed}
use Rattle.rules.proofs.Assigning.{good_tid, good_later, good_first}
use Rattle.rules.proofs.ButFor.{but_for}
use Rattle.rules.proofs.Cases.{taken_by, Passes, Accepts, heard, read, wrote, renamed, first, again, later, KindCase, refuses, fell, missed, outside, accepts, FrameCase, unread, read_as, CallCase, unsoundly, hosts, ticks, frames, call_case, by_sent}
use Rattle.rules.proofs.Hearing.{good_synced}
use Rattle.rules.proofs.Kept.{GoodTo, good_counting}
use Rattle.rules.proofs.MarkSteps.{sequence_marks, skip_marks, row_marks}
use Rattle.rules.proofs.Marking.{good_inputs, good_marks, good_missed, good_sent}
use Rattle.rules.proofs.Modes.{good_fallen}
use Rattle.rules.proofs.Recorded.{holds_empty}
use Rattle.rules.proofs.ServedFrames.{reads_frame}
use Rattle.rules.proofs.SoundParts.{parts, sound_of}
use Rattle.rules.proofs.Spans.{span_placed}
use Rattle.rules.proofs.ReadFits.{read_fitting}
use Rattle.rules.proofs.Ticking.{good_tick}
use Rattle.rules.proofs.Writing.{good_written}

-- good, as facts
pub good_parts : (a : Agent) → Good a → GoodTo 254 a
good_parts a g =
    record { parts = parts a g.sound_is; registers = record { are_256 = g.registers; are_bytes = g.bytes }; places = g.places }

pub parts_good : (a : Agent) → GoodTo 254 a → Good a
parts_good a g =
    record { sound_is = sound_of a g.parts; registers = g.registers.are_256; bytes = g.registers.are_bytes; places = g.places }

below_nobody : {src : ℕ} → src < 256 ^ 3 → (src ≡ nobody → ⊥) → src < nobody
below_nobody h k = omega arith

module _ {a : Agent} (g : GoodTo 254 a) where
  good_taken : {dest src cyc seq : ℕ} → Passes a dest src cyc seq → GoodTo 254 (taken_by seq cyc a)
  good_taken {cyc = cyc} {seq = seq} h =
      let n : ℕ = distance seq cyc - a.taken in
      let b : Agent = skip_marked n a in
      let marked : GoodTo 254 b = good_marks 254 g (skip_marks a n) in
      let p = marked.parts in
      let k : distance seq cyc + 1 ≤ limit_of b = subst (λ (f : Fixed). distance seq cyc + 1 ≤ f.limit) (sym (but_for a (request_taken n)).fixed) (omega (arith, h.few)) in
      good_counting 254 254 b marked k p.e_most p.last_is p.heard_is p.mark_is p.by_mode

  good_accepted : {f : Frame} {xs : List ℕ} {b : Agent} → FittingFrame f → Bytes xs → Accepts a f xs b → GoodTo 254 b
  unfolding is_recorded
  good_accepted h b (heard {src = src} {cyc = cyc} k) = good_synced a src cyc g k.known k.somebody
  good_accepted h b (read p) = good_taken p
  good_accepted h b (wrote {cyc = cyc} {seq = seq} {add = add} {xs = xs} p e) = good_written (taken_by seq cyc a) (good_taken p) add xs b (span_of add (length xs)) (span_placed add (length xs)) e
  good_accepted h b (renamed {tid = tid} e) = good_tid a tid g e
  good_accepted h b (first {src = src} {sid = sid} s n i) =
      let none = eqb-true a.count 0 n in
      good_first a src g (omega arith) (below_nobody (omega (arith, h)) s) (holds_empty a.known a.count src none) sid (omega (arith, h)) i
  good_accepted h b (again n) = g
  good_accepted h b (later {src = src} s n i e) = good_later a src g e (below_nobody (omega (arith, h)) s) i (eqb-false a.count 0 n)

  good_kind : {f : Frame} {xs : List ℕ} {d : Deed} → FittingFrame f → Bytes xs → KindCase a f xs d → GoodTo 254 d.agent
  good_kind {f = f} h b (refuses n e) = good_marks 254 g (row_marks a (is_sync f && running a) (skips_by a f) n e)
  good_kind h b (fell e) = good_fallen by_wrong_cycle refl 254 (sequence_marked a) (good_marks 254 g (sequence_marks a))
  good_kind h b (missed e) = good_missed 254 a g
  good_kind h b (outside p) = good_taken p
  good_kind h b (accepts c) = good_accepted h b c

  good_frame : {body : List ℕ} {d : Deed} → Bytes body → FrameCase a body d → GoodTo 254 d.agent
  good_frame {body = body} b (unread n h) = good_marks 254 g (row_marks a (reads_sync (read_of body) && running a) (skips_read a (read_of body)) n h)
  good_frame {body = body} b (read_as {addr = addr} {s = s} f v e c) =
      let h : Bytes s = data_bytes body addr s b v in
      good_kind (read_fitting addr s f h (reads_frame addr s f e))
      (bytes_take (data_len f) (drop (data_place f) s) (bytes_drop (data_place f) s h)) c

  good_call : {call : Call} {o : Outcome} → BytesCall call → CallCase a call o → GoodTo 254 o.agent
  good_call b (unsoundly e) = g
  good_call b (hosts n h) = g
  good_call b (ticks {xs = xs} e) = good_tick (with_inputs xs a) (good_inputs 254 a g xs e b)
  good_call b (frames {d = d} c) = by_sent (λ o. GoodTo 254 o.agent) d (good_frame b c) (λ f. good_sent 254 d.agent (good_frame b c))

pub good_next : (a : Agent) (call : Call) → Good a → BytesCall call → Good (act a call).agent
good_next a call g b = parts_good (act a call).agent (good_call (good_parts a g) b (call_case a call))

-- Over every call and every agent: counters not named in the table of refusals change only by writes, STATUT bits 4, 3, 2
-- and 0 only when a sent reply clears them. Assumes nothing.
use mathlib.Core.Bool.{Bool, true, false, ◌&&◌}
use mathlib.Core.List.{List, [], ◌∷◌}
use mathlib.Core.Logic.{◌⊎◌, inl, inr, ⊎_elim}
use mathlib.Core.Path.{◌≡◌, refl, ap, ◌∙◌, subst}
use Prim.Native.Nat.{ℕ, ◌+◌, ◌≤◌, ◌<◌}
use native.Mathlib.Omega.{arith}
use borrow.Author.Tests.{ltb-true, ltb-false}
use lib.Bits.{bit_and}
use lib.Dec.{eqb, ltb}
use lib.ListN.{length, get_or}
use Rattle.base.proofs.Choosing.{by_test, never}
use Rattle.base.proofs.Stored.{stored_before, stored_behind}
use Rattle.wire.specs.Body.{ReadBody}
use Rattle.frame_kinds.specs.Kinds.{data_in}
use Rattle.frame_kinds.specs.declared.kinds.Frame.{Frame}
use Rattle.frame_kinds.specs.declared.kinds.Frame.TheVariants.{SafeWrite}
use Rattle.rules.specs.Answers.{cycle, outside_rules, outside_window, accepted}
use Rattle.rules.specs.Calls.{Call, frame, act}
use Rattle.rules.specs.Counters.{Brings, brings, written, Counts}
use Rattle.rules.specs.Fallback.{withheld}
use Rattle.rules.specs.Grounds.{by_order}
use Rattle.rules.specs.Inputs.{with_inputs}
use Rattle.rules.specs.Marks.{skip_marked}
use Rattle.rules.specs.Refusals.{data_of, read_of, is_sync, reads_sync, skips_by, skips_read}
use Rattle.rules.specs.Registers.{tid_at, sid_at, statut, inputs_at, low_bytes}
use Rattle.rules.specs.Replies.{Deed, Outcome, outcome}
use Rattle.rules.specs.Requests.{distance}
use Rattle.rules.specs.Sources.{recorded}
use Rattle.rules.specs.State.{running, reg, store_all, with_taken}
use Rattle.rules.specs.Writes as writes
use Rattle.rules.specs.declared.Agent.{Agent}
use Rattle.rules.specs.declared.Span.{Span}
use Rattle.rules.specs.declared.Span.TheVariants as span
use Rattle.laying.specs.Laying.{line_with}
use Rattle.rules.proofs.ButFor.{other_stored}
use Rattle.rules.proofs.Calm.{Calm, calm_same, calm_then, calm_before, calm_behind, calm_between, calm_fallen, quiet_sent, calm_synced, calm_ticked}
use Rattle.rules.proofs.Cases.{taken_by, Accepts, heard, read, wrote, renamed, first, again, later, KindCase, refuses, fell, missed, outside, accepts, FrameCase, unread, read_as, CallCase, read_of_body, unsoundly, hosts, ticks, frames, call_case, by_sent}
use Rattle.rules.proofs.MarkSteps.{is_marking, apart}
use Rattle.rules.proofs.RowKeeps.{Keeps, calmly, recounted, then_calmly, not_status, skip_keeps, row_keeps}
use Rattle.rules.proofs.Spans.{Placed, inside, span_placed}

-- ---- what is accepted

-- a register is covered by a run of stores, or as before
covered : (a : Agent) (add : ℕ) (xs : List ℕ) (i : ℕ) → (reg (store_all add xs a) i ≡ reg a i) ⊎ ((add ≤ i) × (i < add + length xs))
covered a add xs i = go (ltb i add) (ltb i (add + length xs)) refl refl
  where
    go : (p q : Bool) → ltb i add ≡ p → ltb i (add + length xs) ≡ q → (reg (store_all add xs a) i ≡ reg a i) ⊎ ((add ≤ i) × (i < add + length xs))
    go true q e h = inl (stored_before a.regs add xs i (ltb-true i add e))
    go false true e h = inr (ltb-false i add e, ltb-true i (add + length xs) h)
    go false false e h = inl (stored_behind a.regs add xs i (ltb-false i (add + length xs) h))

-- a write, on the agent b that it finds once it is taken
module _ {dest src cyc seq datl add : ℕ} {xs : List ℕ} {call : Call} {a : Agent} (b : Agent) (k : Keeps a call accepted b) (w : Brings call (SafeWrite dest src cyc seq datl add) xs) where
  counters_keep : 0x1E ≤ add → Keeps a call accepted (store_all add xs b)
  counters_keep l = record {
    counters = λ i e. ⊎_elim (λ h. recounted h (k.counters i e)) (λ p. written w refl p.0 p.1) (covered b add xs i);
    bits = ap (λ (x : ℕ). bit_and x 0x1D) (stored_before b.regs add xs statut (omega arith)) ∙ k.bits;
  }

  write_keeps : (s : Span) → Placed add (length xs) s → writes.allowed s b add xs ≡ true → Keeps a call accepted (writes.written s b add xs)
  write_keeps span.Release (inside _ some l h) ok =
      by_test (Keeps a call accepted) (eqb (get_or xs 0 0) withheld) (λ e. then_calmly k (calm_fallen b by_order))
      (λ e. then_calmly k (calm_before b.regs add xs (omega arith)))
  write_keeps span.CycleTime (inside _ some l h) ok = then_calmly k (calm_before b.regs add xs h)
  write_keeps span.Limits (inside _ some l h) ok = then_calmly k (calm_between b.regs add xs l h)
  write_keeps span.Counters (inside _ some l h) ok = counters_keep l
  write_keeps span.Config (inside _ some l h) ok = then_calmly k (calm_behind b.regs add xs l)
  write_keeps span.Outputs (inside _ some l h) ok = then_calmly k (calm_behind b.regs add xs (omega arith))
  write_keeps span.Outside p ok = never ok

module _ {a : Agent} {call : Call} where
  -- a request that is taken, with 0 or 16
  taken_keeps : {f : Frame} {xs : List ℕ} (n k : ℕ) → Brings call f xs → (n ≡ accepted) ⊎ (n ≡ outside_rules) → Keeps a call n (with_taken k (skip_marked (skips_by a f) a))
  taken_keeps {f = f} n k w z = then_calmly (skip_keeps a call n w z) (calm_same (skip_marked (skips_by a f) a).regs)

  accepted_keeps : {f : Frame} {xs : List ℕ} {b : Agent} → Brings call f xs → Accepts a f xs b → Keeps a call accepted b
  unfolding recorded low_bytes
  accepted_keeps w (heard {src = src} {cyc = cyc} h) = calmly call accepted (calm_synced a src cyc)
  accepted_keeps w (read {cyc = cyc} {seq = seq} p) = taken_keeps accepted (distance seq cyc + 1) w (inl refl)
  accepted_keeps w (wrote {cyc = cyc} {seq = seq} {add = add} {xs = xs} p ok) =
      write_keeps (taken_by seq cyc a) (taken_keeps accepted (distance seq cyc + 1) w (inl refl)) w (writes.span_of add (length xs)) (span_placed add (length xs)) ok
  accepted_keeps w (renamed {tid = tid} e) = calmly call accepted (calm_before a.regs tid_at (tid ∷ []) (omega arith))
  accepted_keeps w (first {sid = sid} s n i) = calmly call accepted (calm_before a.regs sid_at (low_bytes 3 sid) (omega arith))
  accepted_keeps w (again n) = calmly call accepted (calm_same a.regs)
  accepted_keeps w (later s n i e) = calmly call accepted (calm_same a.regs)

  kind_keeps : {f : Frame} {xs : List ℕ} {d : Deed} → Brings call f xs → KindCase a f xs d → Keeps a call d.answer d.agent
  kind_keeps {f = f} w (refuses n h) = row_keeps a call n (is_sync f && running a) (skips_by a f) (apart (is_marking (is_sync f && running a) (skips_by a f)) n outside_rules h refl)
  kind_keeps w (fell e) = row_keeps a call cycle true 0 refl
  kind_keeps w (missed e) = row_keeps a call outside_window true 0 refl
  kind_keeps w (outside {cyc = cyc} {seq = seq} p) = taken_keeps outside_rules (distance seq cyc + 1) w (inr refl)
  kind_keeps w (accepts c) = accepted_keeps w c

frame_keeps : {a : Agent} {body : List ℕ} {d : Deed} (port room : ℕ) → FrameCase a body d → Keeps a (frame port body room) d.answer d.agent
frame_keeps {a = a} {body = body} port room (unread n h) =
    let b : Bool = reads_sync (read_of body) && running a in
    let s : ℕ = skips_read a (read_of body) in
    row_keeps a (frame port body room) n b s (apart (is_marking b s) n outside_rules h refl)
frame_keeps {a = a} {body = body} port room (read_as f v e c) =
    kind_keeps (subst (λ (b : ReadBody). Brings (frame port body room) f (data_in f (data_of b))) v (brings (read_of_body body v ∙ e))) c

-- ---- a call
inputs_calm : (a : Agent) (xs : List ℕ) → Calm a.regs (with_inputs xs a).regs
unfolding with_inputs
inputs_calm a xs = calm_behind a.regs inputs_at xs (omega arith)

unsent : {a b : Agent} {call : Call} {n : ℕ} → Keeps a call n b → Counts a call (outcome n b)
unsent k = record { counters = k.counters; bits = inl k.bits }

line_there : (check addr : ℕ) (xs : List ℕ) → line_with check addr xs ≡ [] → ⊥
unfolding line_with
line_there check addr xs e = let z : ◌≡◌ {A = ℕ} 0 1 = cc in omega arith

call_counts : {a : Agent} {call : Call} {o : Outcome} → CallCase a call o → Counts a call o
call_counts {a = a} (unsoundly e) = unsent (calmly _ _ (calm_same a.regs))
call_counts {a = a} (hosts n h) = unsent (calmly _ _ (calm_same a.regs))
call_counts {a = a} (ticks {xs = xs} e) = unsent (calmly _ _ (calm_then (inputs_calm a xs) (calm_ticked (with_inputs xs a))))
call_counts {a = a} (frames {port = port} {room = room} {body = body} {d = d} c) =
    let call : Call = frame port body room in
    let k : Keeps a call d.answer d.agent = frame_keeps port room c in
    by_sent (Counts a call) d (unsent k) (λ f. record {
      counters = λ i e. recounted (other_stored statut (bit_and (reg d.agent statut) 0x80) d.agent i (not_status i e)) (k.counters i e);
      bits = inr (line_there _ _ _, quiet_sent d.agent.regs);
    })

pub counters_kept : (a : Agent) (call : Call) → Counts a call (act a call)
counters_kept a call = call_counts (call_case a call)

-- What the window's lists come to: the edges for several t, a sync too early that is healed or not, and one too late.
-- Assumes nothing.
use mathlib.Core.List.{List, [], ◌∷◌, ◌++◌}
use mathlib.Core.Path.{◌≡◌, refl, sym, ap, ◌∙◌, subst}
use Prim.Native.Nat.{ℕ}
use native.Mathlib.Omega.{arith}
use Rattle.frame_kinds.specs.declared.kinds.Frame.TheVariants.{Sync, SafeWrite, SidAssignment}
use Rattle.rules.specs.Assignments.{on_first_sid, on_later_sid, on_sid}
use Rattle.rules.specs.Calls.{Call}
use Rattle.rules.specs.Fallback.{enter_fallback, enter_run}
use Rattle.rules.specs.Fixed.{fits}
use Rattle.rules.specs.Marks.{skip_marked, window_marked}
use Rattle.rules.specs.PowerUp.{power_regs, power_up}
use Rattle.rules.specs.Registers.{out_rep, tcyc, cnf_cyc, outputs_at, low_bytes, low_number}
use Rattle.rules.specs.Replies.{Outcome, sync_reply, acknowledges, send_frame, sent}
use Rattle.rules.specs.Requests.{distance, on_distance, on_request}
use Rattle.rules.specs.Sound.{settings_sound, sources_sound, counters_sound, outputs_zero, run_sound, fallback_sound, sound}
use Rattle.rules.specs.Sources.{holds, distinct, below24, is_recorded, recorded, sid_of}
use Rattle.rules.specs.Sync.{cycle_fits, heard_sync, synced, on_sync}
use Rattle.rules.specs.Tick.{counted, limited, cycle_ended, ticked}
use Rattle.rules.specs.Window.{width, in_window}
use Rattle.rules.specs.Writes.{span_at, span_of, on_write}
use Rattle.rules.specs.declared.Agent.{Agent}
use Rattle.bench.specs.BusCalls.{module1, own_sid, own_tid, concentrator, syncs, seq_of, after, silent}
use Rattle.bench.specs.Windows.{started, answer_after, AllEdges, Runs, HasFallen, early, Healed, NotHealed, late, TooLate}
use Rattle.bench.proofs.Acting.{acted, acts_at, assignment_lays, sync_lays, write_lays, Coming, agent_after, after_calls, after_comes, after_append}
use Rattle.bench.proofs.HeldInputs.{Held, held_at, ticks, after_silent}

abbrev pub coming : ℕ → List Coming
coming t =
    record { port = 1; addr = 0xFF; f = SidAssignment concentrator 0x00000001 0x01 own_sid; xs = []; on_port = refl; lays = assignment_lays }
    ∷ record { port = 1; addr = 0xFF; f = Sync concentrator 0x10; xs = []; on_port = refl; lays = sync_lays 0x10 (omega arith) }
    ∷ record { port = 1; addr = own_tid; f = SafeWrite own_sid concentrator 0x10 (seq_of 0x10 0) 1 tcyc; xs = t ∷ []; on_port = refl; lays = write_lays 0x10 0 tcyc (t ∷ []) (omega arith) (omega arith) (omega arith) }
    ∷ record { port = 1; addr = own_tid; f = SafeWrite own_sid concentrator 0x10 (seq_of 0x10 1) 1 cnf_cyc; xs = 0x05 ∷ []; on_port = refl; lays = write_lays 0x10 1 cnf_cyc (0x05 ∷ []) (omega arith) (omega arith) (omega arith) }
    ∷ record { port = 1; addr = own_tid; f = SafeWrite own_sid concentrator 0x10 (seq_of 0x10 2) 1 out_rep; xs = 0x55 ∷ []; on_port = refl; lays = write_lays 0x10 2 out_rep (0x55 ∷ []) (omega arith) (omega arith) (omega arith) }
    ∷ record { port = 1; addr = 0xFF; f = Sync concentrator 0x11; xs = []; on_port = refl; lays = sync_lays 0x11 (omega arith) }
    ∷ record { port = 1; addr = own_tid; f = SafeWrite own_sid concentrator 0x11 (seq_of 0x11 0) 1 outputs_at; xs = 0xAB ∷ []; on_port = refl; lays = write_lays 0x11 0 outputs_at (0xAB ∷ []) (omega arith) (omega arith) (omega arith) }
    ∷ []

abbrev pub running : ℕ → Agent
running t = agent_after (coming t) module1

pub started_is : (t : ℕ) → started t ≡ running t
started_is t = after_calls (coming t) module1

-- the sync 12h after so many ticks, once the inputs are known to be held
module _ (t : ℕ) (held : Held (running t)) where
  pub quiet : (n : ℕ) → after (silent n) (started t) ≡ ticks n (running t)
  quiet n = ap (after (silent n)) (started_is t) ∙ after_silent n (running t) held

  answered : (n : ℕ) → answer_after t n ≡ (acted 1 0xFF (Sync concentrator 0x12) [] (ticks n (running t))).answer
  answered n = ap (λ (o : Outcome). o.answer) (acts_at (sync_lays 0x12 (omega arith)) (quiet n))

-- ---- the edges
pub edges : AllEdges
unfolding on_first_sid on_later_sid on_sid enter_fallback enter_run power_regs power_up low_bytes low_number sync_reply acknowledges send_frame sent distance on_distance skip_marked on_request settings_sound sources_sound counters_sound outputs_zero run_sound fallback_sound sound fits holds distinct below24 is_recorded recorded sid_of cycle_fits heard_sync synced on_sync span_at span_of on_write in_window width window_marked ticked counted limited cycle_ended
edges =
    let a1 = answered 1 (held_at (running 1).regs refl refl) in
    let a7 = answered 7 (held_at (running 7).regs refl refl) in
    let a8 = answered 8 (held_at (running 8).regs refl refl) in
    let a15 = answered 15 (held_at (running 15).regs refl refl) in
    let a16 = answered 16 (held_at (running 16).regs refl refl) in
    let a255 = answered 255 (held_at (running 255).regs refl refl) in
    ((a7 5 ∙ refl, a7 6 ∙ refl, a7 8 ∙ refl, a7 9 ∙ refl), (a8 6 ∙ refl, a8 7 ∙ refl, a8 9 ∙ refl, a8 10 ∙ refl), (a15 13 ∙ refl, a15 14 ∙ refl, a15 16 ∙ refl, a15 17 ∙ refl), (a16 13 ∙ refl, a16 14 ∙ refl, a16 18 ∙ refl, a16 19 ∙ refl), (a255 223 ∙ refl, a255 224 ∙ refl, a255 286 ∙ refl, a255 287 ∙ refl), a1 0 ∙ refl, a1 1 ∙ refl)

-- ---- the three lists
pub held : Held (running 16)
unfolding on_first_sid on_later_sid on_sid enter_fallback enter_run power_regs power_up low_bytes low_number sync_reply acknowledges send_frame sent distance on_distance skip_marked on_request settings_sound sources_sound counters_sound outputs_zero run_sound fallback_sound sound fits holds distinct below24 is_recorded recorded sid_of cycle_fits heard_sync synced on_sync span_at span_of on_write
held = held_at (running 16).regs refl refl

-- the sync 12h after so many ticks, and so many more
abbrev pub missed_at : ℕ → Agent
missed_at n = (acted 1 0xFF (Sync concentrator 0x12) [] (ticks n (running 16))).agent

missed : (n : ℕ) (rest : List Call) → after ((silent n ++ (syncs 0x12 ∷ [])) ++ rest) (started 16) ≡ after rest (missed_at n)
missed n rest =
    after_append (silent n ++ (syncs 0x12 ∷ [])) rest (started 16)
    ∙ ap (after rest)
    (after_append (silent n) (syncs 0x12 ∷ []) (started 16)
    ∙ after_comes (sync_lays 0x12 (omega arith)) [] (after (silent n) (started 16))
    ∙ ap (λ (a : Agent). (acted 1 0xFF (Sync concentrator 0x12) [] a).agent) (quiet 16 held n))

held_early : Held (missed_at 10)
unfolding on_first_sid on_later_sid on_sid enter_fallback enter_run power_regs power_up low_bytes low_number sync_reply acknowledges send_frame sent distance on_distance skip_marked on_request settings_sound sources_sound counters_sound outputs_zero run_sound fallback_sound sound fits holds distinct below24 is_recorded recorded sid_of cycle_fits heard_sync synced on_sync span_at span_of on_write in_window width window_marked ticked counted limited cycle_ended
held_early = held_at (missed_at 10).regs refl refl

held_late : Held (missed_at 19)
unfolding on_first_sid on_later_sid on_sid enter_fallback enter_run power_regs power_up low_bytes low_number sync_reply acknowledges send_frame sent distance on_distance skip_marked on_request settings_sound sources_sound counters_sound outputs_zero run_sound fallback_sound sound fits holds distinct below24 is_recorded recorded sid_of cycle_fits heard_sync synced on_sync span_at span_of on_write in_window width window_marked ticked counted limited cycle_ended
held_late = held_at (missed_at 19).regs refl refl

pub after_early : (n : ℕ) → after (early ++ silent n) (started 16) ≡ ticks n (missed_at 10)
after_early n = missed 10 (silent n) ∙ after_silent n (missed_at 10) held_early

after_late : (n : ℕ) → after (late ++ silent n) (started 16) ≡ ticks n (missed_at 19)
after_late n = missed 19 (silent n) ∙ after_silent n (missed_at 19) held_late

-- mode and output of an agent that is known
runs : (a b : Agent) → a ≡ b → Runs b → Runs a
runs a b e = subst Runs (sym e)

fallen : (a b : Agent) → a ≡ b → HasFallen b → HasFallen a
fallen a b e = subst HasFallen (sym e)

-- accepted at e = 15
abbrev again : Agent
again = (acted 1 0xFF (Sync concentrator 0x12) [] (ticks 5 (missed_at 10))).agent

held_again : Held again
unfolding on_first_sid on_later_sid on_sid enter_fallback enter_run power_regs power_up low_bytes low_number sync_reply acknowledges send_frame sent distance on_distance skip_marked on_request settings_sound sources_sound counters_sound outputs_zero run_sound fallback_sound sound fits holds distinct below24 is_recorded recorded sid_of cycle_fits heard_sync synced on_sync span_at span_of on_write in_window width window_marked ticked counted limited cycle_ended
held_again = held_at again.regs refl refl

after_again : after (early ++ (silent 5 ++ (syncs 0x12 ∷ silent 16))) (started 16) ≡ ticks 16 again
after_again =
    missed 10 (silent 5 ++ (syncs 0x12 ∷ silent 16))
    ∙ after_append (silent 5) (syncs 0x12 ∷ silent 16) (missed_at 10)
    ∙ after_comes (sync_lays 0x12 (omega arith)) (silent 16) (after (silent 5) (missed_at 10))
    ∙ ap (λ (a : Agent). after (silent 16) (acted 1 0xFF (Sync concentrator 0x12) [] a).agent) (after_silent 5 (missed_at 10) held_early)
    ∙ after_silent 16 again held_again

pub healed : Healed
unfolding on_first_sid on_later_sid on_sid enter_fallback enter_run power_regs power_up low_bytes low_number sync_reply acknowledges send_frame sent distance on_distance skip_marked on_request settings_sound sources_sound counters_sound outputs_zero run_sound fallback_sound sound fits holds distinct below24 is_recorded recorded sid_of cycle_fits heard_sync synced on_sync span_at span_of on_write in_window width window_marked ticked counted limited cycle_ended
healed = (
  answered 16 held 10 ∙ refl,
  ap (λ (o : Outcome). o.answer) (acts_at (sync_lays 0x12 (omega arith)) (after_early 5)) ∙ refl,
  runs _ _ after_again (refl, refl),
)

pub not_healed : NotHealed
unfolding on_first_sid on_later_sid on_sid enter_fallback enter_run power_regs power_up low_bytes low_number sync_reply acknowledges send_frame sent distance on_distance skip_marked on_request settings_sound sources_sound counters_sound outputs_zero run_sound fallback_sound sound fits holds distinct below24 is_recorded recorded sid_of cycle_fits heard_sync synced on_sync span_at span_of on_write in_window width window_marked ticked counted limited cycle_ended
not_healed = (runs _ _ (after_early 5) (refl, refl), fallen _ _ (after_early 6) (refl, refl))

pub too_late : TooLate
unfolding on_first_sid on_later_sid on_sid enter_fallback enter_run power_regs power_up low_bytes low_number sync_reply acknowledges send_frame sent distance on_distance skip_marked on_request settings_sound sources_sound counters_sound outputs_zero run_sound fallback_sound sound fits holds distinct below24 is_recorded recorded sid_of cycle_fits heard_sync synced on_sync span_at span_of on_write in_window width window_marked ticked counted limited cycle_ended
too_late = (answered 16 held 19 ∙ refl, runs _ _ (after_late 12) (refl, refl), fallen _ _ (after_late 13) (refl, refl))

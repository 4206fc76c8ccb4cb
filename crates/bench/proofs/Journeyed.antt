-- The rules are not empty: RUN is reached, an output is written, and silence ends RUN at exactly the tick it should.
-- Assumes nothing.
use mathlib.Core.List.{List, [], ◌∷◌}
use mathlib.Core.Path.{◌≡◌, refl, ap, ◌∙◌}
use Prim.Native.Nat.{ℕ}
use native.Mathlib.Omega.{arith}
use Rattle.frame_kinds.specs.declared.kinds.Frame.TheVariants.{Sync, SafeWrite, SidAssignment}
use Rattle.rules.specs.Assignments.{on_first_sid, on_later_sid, on_sid}
use Rattle.rules.specs.Fallback.{enter_fallback, enter_run}
use Rattle.rules.specs.Fixed.{fits}
use Rattle.rules.specs.Marks.{skip_marked}
use Rattle.rules.specs.PowerUp.{power_regs, power_up}
use Rattle.rules.specs.Registers.{out_rep, outputs_at, low_bytes, low_number}
use Rattle.rules.specs.Replies.{sync_reply, acknowledges, send_frame, sent}
use Rattle.rules.specs.Requests.{distance, on_distance, on_request}
use Rattle.rules.specs.Sound.{settings_sound, sources_sound, counters_sound, outputs_zero, run_sound, fallback_sound, sound}
use Rattle.rules.specs.Sources.{holds, distinct, below24, is_recorded, recorded, sid_of}
use Rattle.rules.specs.State.{in_run, in_fallback, reg}
use Rattle.rules.specs.Sync.{cycle_fits, heard_sync, synced, on_sync}
use Rattle.rules.specs.Tick.{counted, limited, cycle_ended, ticked}
use Rattle.rules.specs.Writes.{span_at, span_of, on_write}
use Rattle.rules.specs.declared.Agent.{Agent}
use Rattle.bench.specs.BusCalls.{module1, own_sid, own_tid, concentrator, seq_of, after, answers, silent}
use Rattle.bench.specs.Journey.{opening}
use Rattle.bench.proofs.Acting.{assignment_lays, sync_lays, write_lays, Coming, agent_after, after_calls, answers_calls}
use Rattle.bench.proofs.HeldInputs.{Held, held_at, ticks, after_silent}

abbrev coming : List Coming
coming =
    record { port = 1; addr = 0xFF; f = SidAssignment concentrator 0x00000001 0x01 own_sid; xs = []; on_port = refl; lays = assignment_lays }
    ∷ record { port = 1; addr = 0xFF; f = Sync concentrator 0x10; xs = []; on_port = refl; lays = sync_lays 0x10 (omega arith) }
    ∷ record { port = 2; addr = own_tid; f = SafeWrite own_sid concentrator 0x10 (seq_of 0x10 0) 1 out_rep; xs = 0x55 ∷ []; on_port = refl; lays = write_lays 0x10 0 out_rep (0x55 ∷ []) (omega arith) (omega arith) (omega arith) }
    ∷ record { port = 1; addr = 0xFF; f = Sync concentrator 0x11; xs = []; on_port = refl; lays = sync_lays 0x11 (omega arith) }
    ∷ record { port = 2; addr = own_tid; f = SafeWrite own_sid concentrator 0x11 (seq_of 0x11 0) 1 outputs_at; xs = 0xAB ∷ []; on_port = refl; lays = write_lays 0x11 0 outputs_at (0xAB ∷ []) (omega arith) (omega arith) (omega arith) }
    ∷ []

opened : after opening module1 ≡ agent_after coming module1
opened = after_calls coming module1

-- every call of the opening is accepted
pub all_accepted : answers opening module1 ≡ 0 ∷ 0 ∷ 0 ∷ 0 ∷ 0 ∷ []
unfolding on_first_sid on_later_sid on_sid enter_fallback enter_run power_regs power_up low_bytes low_number sync_reply acknowledges send_frame sent distance on_distance skip_marked on_request settings_sound sources_sound counters_sound outputs_zero run_sound fallback_sound sound fits holds distinct below24 is_recorded recorded sid_of cycle_fits heard_sync synced on_sync span_at span_of on_write
all_accepted = answers_calls coming module1 ∙ refl

-- it ends in RUN with the output written
pub in_run_lem : ((after opening module1).mode ≡ in_run) × (reg (after opening module1) outputs_at ≡ 0xAB)
unfolding on_first_sid on_later_sid on_sid enter_fallback enter_run power_regs power_up low_bytes low_number sync_reply acknowledges send_frame sent distance on_distance skip_marked on_request settings_sound sources_sound counters_sound outputs_zero run_sound fallback_sound sound fits holds distinct below24 is_recorded recorded sid_of cycle_fits heard_sync synced on_sync span_at span_of on_write
in_run_lem = (ap (λ (a : Agent). a.mode) opened ∙ refl, ap (λ (a : Agent). reg a outputs_at) opened ∙ refl)

-- the inputs are as they were at power-up
held : Held (agent_after coming module1)
unfolding on_first_sid on_later_sid on_sid enter_fallback enter_run power_regs power_up low_bytes low_number sync_reply acknowledges send_frame sent distance on_distance skip_marked on_request settings_sound sources_sound counters_sound outputs_zero run_sound fallback_sound sound fits holds distinct below24 is_recorded recorded sid_of cycle_fits heard_sync synced on_sync span_at span_of on_write
held = held_at (agent_after coming module1).regs refl refl

silence : (n : ℕ) → after (silent n) (after opening module1) ≡ ticks n (agent_after coming module1)
silence n = ap (after (silent n)) opened ∙ after_silent n (agent_after coming module1) held

-- n × t is 510 ms: RUN after 509 silent ticks, fallback with the output cleared at the 510th
pub ring_lost : ((after (silent 509) (after opening module1)).mode ≡ in_run)
    × ((after (silent 510) (after opening module1)).mode ≡ in_fallback)
    × (reg (after (silent 510) (after opening module1)) outputs_at ≡ 0)
unfolding on_first_sid on_later_sid on_sid enter_fallback enter_run power_regs power_up low_bytes low_number sync_reply acknowledges send_frame sent distance on_distance skip_marked on_request settings_sound sources_sound counters_sound outputs_zero run_sound fallback_sound sound fits holds distinct below24 is_recorded recorded sid_of cycle_fits heard_sync synced on_sync span_at span_of on_write ticked counted limited cycle_ended
ring_lost = (
  ap (λ (a : Agent). a.mode) (silence 509) ∙ refl,
  ap (λ (a : Agent). a.mode) (silence 510) ∙ refl,
  ap (λ (a : Agent). reg a outputs_at) (silence 510) ∙ refl,
)

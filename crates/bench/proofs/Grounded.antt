-- What 26h shows after the lists for it. Assumes nothing.
use mathlib.Core.List.{List, [], ◌∷◌}
use mathlib.Core.Path.{◌≡◌, refl, sym, ap, ◌∙◌, subst}
use Prim.Native.Nat.{ℕ}
use native.Mathlib.Omega.{arith}
use Rattle.frame_kinds.specs.declared.kinds.Frame.TheVariants.{Sync, SafeWrite}
use Rattle.rules.specs.Assignments.{on_first_sid, on_later_sid, on_sid}
use Rattle.rules.specs.Calls.{tick_call}
use Rattle.rules.specs.Fallback.{enter_fallback, enter_run}
use Rattle.rules.specs.Fixed.{fits}
use Rattle.rules.specs.Inputs.{with_inputs}
use Rattle.rules.specs.Marks.{sequence_marked, skip_marked, window_marked}
use Rattle.rules.specs.PowerUp.{power_regs, power_up}
use Rattle.rules.specs.Registers.{out_rep, low_bytes, low_number}
use Rattle.rules.specs.Replies.{sync_reply, acknowledges, send_frame, sent}
use Rattle.rules.specs.Requests.{distance, on_distance, on_request}
use Rattle.rules.specs.Sound.{settings_sound, sources_sound, counters_sound, outputs_zero, run_sound, fallback_sound, sound}
use Rattle.rules.specs.Sources.{holds, distinct, below24, is_recorded, recorded, sid_of}
use Rattle.rules.specs.Sync.{cycle_fits, heard_sync, synced, on_sync}
use Rattle.rules.specs.Tick.{counted, limited, cycle_ended, ticked}
use Rattle.rules.specs.Window.{width, in_window}
use Rattle.rules.specs.Writes.{span_at, span_of, on_write}
use Rattle.rules.specs.declared.Agent.{Agent}
use Rattle.bench.specs.BusCalls.{own_sid, own_tid, concentrator, seq_of, after, silent}
use Rattle.bench.specs.Grounds.{Shows, Grounds}
use Rattle.bench.specs.Windows.{started}
use Rattle.bench.proofs.Acting.{sync_lays, write_lays, Coming, calls, agent_after, after_calls}
use Rattle.bench.proofs.RunCases.{timely_then}
use Rattle.bench.proofs.Windowed.{running, started_is, quiet, held, after_early}

-- of an agent that is known
shows : (mode g : ℕ) {a b : Agent} → a ≡ b → Shows mode g b → Shows mode g a
shows mode g e = subst (Shows mode g) (sym e)

-- the frames of the lists
abbrev wrong : List Coming
wrong = record { port = 1; addr = 0xFF; f = Sync concentrator 0x20; xs = []; on_port = refl; lays = sync_lays 0x20 (omega arith) } ∷ []

abbrev order : Coming
order = record { port = 1; addr = own_tid; f = SafeWrite own_sid concentrator 0x11 (seq_of 0x11 1) 1 out_rep; xs = 0xAA ∷ []; on_port = refl; lays = write_lays 0x11 1 out_rep (0xAA ∷ []) (omega arith) (omega arith) (omega arith) }

abbrev back : List Coming
back =
    order
    ∷ record { port = 1; addr = own_tid; f = SafeWrite own_sid concentrator 0x11 (seq_of 0x11 2) 1 out_rep; xs = 0x55 ∷ []; on_port = refl; lays = write_lays 0x11 2 out_rep (0x55 ∷ []) (omega arith) (omega arith) (omega arith) }
    ∷ record { port = 1; addr = 0xFF; f = Sync concentrator 0x12; xs = []; on_port = refl; lays = sync_lays 0x12 (omega arith) }
    ∷ []

behind : (cs : List Coming) → after (calls cs) (started 16) ≡ agent_after cs (running 16)
behind cs = ap (after (calls cs)) (started_is 16) ∙ after_calls cs (running 16)

pub grounds : Grounds
unfolding tick_call with_inputs on_first_sid on_later_sid on_sid enter_fallback enter_run power_regs power_up low_bytes low_number sync_reply acknowledges send_frame sent distance on_distance skip_marked on_request settings_sound sources_sound counters_sound outputs_zero run_sound fallback_sound sound fits holds distinct below24 is_recorded recorded sid_of cycle_fits heard_sync synced on_sync span_at span_of on_write in_window width sequence_marked window_marked ticked counted limited cycle_ended
grounds = (
  (refl, refl),
  shows 1 0 (started_is 16) (refl, refl),
  shows 0 1 (quiet 16 held 80) (refl, refl),
  shows 0 2 (timely_then (silent 10)) (refl, refl),
  shows 0 3 (behind wrong) (refl, refl),
  shows 0 4 (behind (order ∷ [])) (refl, refl),
  shows 1 4 (behind back) (refl, refl),
  shows 0 5 (after_early 6) (refl, refl),
)

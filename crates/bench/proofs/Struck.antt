-- The pairs of lists that differ by one refused call, computed. Assumes nothing.
use mathlib.Core.List.{List, [], ◌∷◌}
use mathlib.Core.Path.{◌≡◌, refl, ap, ◌∙◌}
use Prim.Native.Nat.{ℕ}
use native.Mathlib.Omega.{arith}
use Rattle.base.specs.Bytes.{number_at}
use Rattle.crc.specs.Crc.{top_bit, crc_bit, crc_bits, crc_byte, crc_from, crc_of}
use Rattle.stuffing.specs.Stuffing.{meaning_of, unstuff_from, unstuff}
use Rattle.wire.specs.Body.{reserved_addr, fcs_of, checked_body, unstuffed_body, read_body}
use Rattle.frame_kinds.specs.declared.kinds.Frame.{Frame}
use Rattle.frame_kinds.specs.declared.kinds.Frame.TheVariants.{SafeWrite}
use Rattle.rules.specs.Calls.{Call, frame_call, act}
use Rattle.rules.specs.Fallback.{enter_fallback}
use Rattle.rules.specs.Fixed.{doors_limit, fits}
use Rattle.rules.specs.FrameCall.{served, agent_read, on_app, on_body, on_frame}
use Rattle.rules.specs.Marks.{line_marked, format_marked, sequence_marked, skip_marked, window_marked}
use Rattle.rules.specs.PowerUp.{power_regs, power_up}
use Rattle.rules.specs.Registers.{typ_at, statut, cpt_seq, cpt_for, ground_at, outputs_at, low_bytes, low_number}
use Rattle.rules.specs.Replies.{Outcome, outcome, sent}
use Rattle.rules.specs.Requests.{distance, on_distance, on_request}
use Rattle.rules.specs.Sound.{settings_sound, sources_sound, counters_sound, outputs_zero, run_sound, fallback_sound, sound}
use Rattle.rules.specs.Sources.{holds, distinct, below24, is_recorded, sid_of}
use Rattle.rules.specs.State.{reg}
use Rattle.rules.specs.Sync.{cycle_fits, on_sync}
use Rattle.rules.specs.Tick.{counted, limited, cycle_ended, ticked}
use Rattle.rules.specs.Window.{width, in_window}
use Rattle.rules.specs.Writes.{span_at, span_of, on_write}
use Rattle.rules.specs.declared.Agent.{Agent}
use Rattle.rules.proofs.LaidServed.{Layable}
use Rattle.bench.specs.BusCalls.{module1, own_sid, own_tid, concentrator, comes, seq_of, writes_to, after}
use Rattle.bench.specs.Skips.{running}
use Rattle.bench.specs.Striking.{Noticed, later, empty, bad_escape, brief, damaged, non_safe, AtPowerUp, InRun, CannotBeStruck}
use Rattle.bench.proofs.Acting.{acted, acts_at, sync_lays, read_lays, write_lays}
use Rattle.bench.proofs.HeldInputs.{Held, held_at, ticks, after_silent}
use Rattle.bench.proofs.Started.{ready, start_05}

-- ---- at power-up: the call marks the agent, and a tick later the mark is there
module _ {number : ℕ} (x : Call) {b : Agent} (i : ℕ) {p q : ℕ} (refused : act module1 x ≡ outcome number b) where
  marked : Held module1 → Held b → reg (ticks 1 b) i ≡ p → reg (ticks 1 module1) i ≡ q → Noticed number module1 x later i p q
  marked h k e f = (
    ap (λ (o : Outcome). o.answer) refused,
    ap (λ (o : Outcome). reg (after (later ∷ []) o.agent) i) refused ∙ ap (λ (a : Agent). reg a i) (after_silent 1 b k) ∙ e,
    ap (λ (a : Agent). reg a i) (after_silent 1 module1 h) ∙ f,
  )

-- 1 to 4 and 7
is_empty : act module1 empty ≡ outcome 1 (line_marked module1)
unfolding frame_call on_frame on_body read_body sent power_regs power_up low_bytes low_number settings_sound sources_sound counters_sound outputs_zero run_sound fallback_sound sound fits holds distinct below24 is_recorded sid_of
is_empty = refl

is_bad_escape : act module1 bad_escape ≡ outcome 2 (line_marked module1)
unfolding frame_call on_frame on_body read_body unstuffed_body unstuff unstuff_from meaning_of sent power_regs power_up low_bytes low_number settings_sound sources_sound counters_sound outputs_zero run_sound fallback_sound sound fits holds distinct below24 is_recorded sid_of
is_bad_escape = refl

is_brief : act module1 brief ≡ outcome 3 (line_marked module1)
unfolding frame_call on_frame on_body read_body unstuffed_body unstuff unstuff_from meaning_of sent power_regs power_up low_bytes low_number settings_sound sources_sound counters_sound outputs_zero run_sound fallback_sound sound fits holds distinct below24 is_recorded sid_of
is_brief = refl

is_damaged : act module1 damaged ≡ outcome 4 (line_marked module1)
unfolding frame_call on_frame on_body read_body unstuffed_body checked_body fcs_of crc_of crc_from crc_byte crc_bits crc_bit top_bit unstuff unstuff_from meaning_of sent power_regs power_up low_bytes low_number settings_sound sources_sound counters_sound outputs_zero run_sound fallback_sound sound fits holds distinct below24 is_recorded sid_of
is_damaged = refl

is_not_served : act module1 non_safe ≡ outcome 7 (format_marked module1)
unfolding frame_call on_frame on_body on_app agent_read served number_at read_body unstuffed_body checked_body reserved_addr fcs_of crc_of crc_from crc_byte crc_bits crc_bit top_bit unstuff unstuff_from meaning_of sent power_regs power_up low_bytes low_number settings_sound sources_sound counters_sound outputs_zero run_sound fallback_sound sound fits holds distinct below24 is_recorded sid_of
is_not_served = refl

at_power_up : AtPowerUp
unfolding line_marked format_marked ticked counted limited cycle_ended power_regs power_up low_bytes low_number settings_sound sources_sound counters_sound outputs_zero run_sound fallback_sound sound fits holds distinct below24 is_recorded sid_of
at_power_up =
    let h : Held module1 = held_at module1.regs refl refl in
    let k : Held (line_marked module1) = held_at (line_marked module1).regs refl refl in
    let l : Held (format_marked module1) = held_at (format_marked module1).regs refl refl in
    (marked empty statut is_empty h k refl refl, marked bad_escape statut is_bad_escape h k refl refl, marked brief statut is_brief h k refl refl, marked damaged statut is_damaged h k refl refl, marked non_safe cpt_for is_not_served h l refl refl)

-- ---- in RUN
abbrev in_run : Agent
in_run = ready doors_limit 0x05 0

module _ {addr : ℕ} {f : Frame} {xs : List ℕ} (i : ℕ) {p q : ℕ} (l : Layable addr f xs) where
  noticed : (number : ℕ) → Held in_run → Held (acted 1 addr f xs in_run).agent → (acted 1 addr f xs in_run).answer ≡ number
      → reg (ticks 1 (acted 1 addr f xs in_run).agent) i ≡ p → reg (ticks 1 in_run) i ≡ q → Noticed number running (comes addr f xs) later i p q
  noticed number h k n e g = (
    ap (λ (o : Outcome). o.answer) (acts_at l start_05) ∙ n,
    ap (λ (o : Outcome). reg (after (later ∷ []) o.agent) i) (acts_at l start_05)
        ∙ ap (λ (a : Agent). reg a i) (after_silent 1 (acted 1 addr f xs in_run).agent k)
        ∙ e,
    ap (λ (a : Agent). reg (after (later ∷ []) a) i) start_05 ∙ ap (λ (a : Agent). reg a i) (after_silent 1 in_run h) ∙ g,
  )

-- 16: the same number again
outside : Layable own_tid (SafeWrite own_sid concentrator 0x05 (seq_of 0x05 0) 2 0xBF) (0x01 ∷ 0x02 ∷ [])
outside = write_lays 0x05 0 0xBF (0x01 ∷ 0x02 ∷ []) (omega arith) (omega arith) (omega arith)

within : Layable own_tid (SafeWrite own_sid concentrator 0x05 (seq_of 0x05 0) 1 outputs_at) (0x55 ∷ [])
within = write_lays 0x05 0 outputs_at (0x55 ∷ []) (omega arith) (omega arith) (omega arith)

number_used : Noticed 16 running (writes_to 0x05 0 0xBF (0x01 ∷ 0x02 ∷ [])) (writes_to 0x05 0 outputs_at (0x55 ∷ [])) outputs_at 0x00 0x55
unfolding sent on_request on_distance skip_marked distance on_write span_at span_of settings_sound sources_sound counters_sound outputs_zero run_sound fallback_sound sound fits holds distinct below24 is_recorded sid_of low_number power_regs low_bytes
number_used = (
  ap (λ (o : Outcome). o.answer) (acts_at outside start_05) ∙ refl,
  ap (λ (o : Outcome). reg o.agent outputs_at) (acts_at within (ap (λ (o : Outcome). o.agent) (acts_at outside start_05))) ∙ refl,
  ap (λ (o : Outcome). reg o.agent outputs_at) (acts_at within start_05) ∙ refl,
)

-- 12, 14, 16 and 22
in_run_lem : InRun
unfolding sent on_sync on_request on_distance skip_marked distance enter_fallback sequence_marked window_marked cycle_fits in_window width ticked counted limited cycle_ended settings_sound sources_sound counters_sound outputs_zero run_sound fallback_sound sound fits holds distinct below24 is_recorded sid_of low_number power_regs low_bytes
in_run_lem =
    let h : Held in_run = held_at in_run.regs refl refl in (
      noticed ground_at (sync_lays 0x20 (omega arith)) 12 h (held_at _ refl refl) refl refl refl,
      noticed cpt_seq (read_lays 0x04 0 1 typ_at (omega arith) (omega arith) (omega arith)) 12 h (held_at _ refl refl) refl refl refl,
      noticed cpt_seq (read_lays 0x05 4 1 typ_at (omega arith) (omega arith) (omega arith)) 14 h (held_at _ refl refl) refl refl refl,
      number_used,
      noticed statut (sync_lays 0x06 (omega arith)) 22 h (held_at _ refl refl) refl refl refl,
    )

pub cannot_be_struck : CannotBeStruck
cannot_be_struck = (at_power_up, in_run_lem)

-- P9 to P14, from the starts that their calls lead to. Assumes nothing.
use mathlib.Core.Bool.{true}
use mathlib.Core.List.{List, [], ◌∷◌, ◌++◌}
use mathlib.Core.Path.{◌≡◌, refl, sym, ap, ◌∙◌, subst}
use Prim.Native.Nat.{ℕ, zero, suc, ◌+◌, ◌-◌, ◌≤◌, ◌<◌}
use native.Mathlib.Omega.{arith}
use lib.ListN.{take, drop}
use Rattle.frame_writing.specs.Writing.{frame_line}
use Rattle.frame_kinds.specs.declared.kinds.Frame.{Frame}
use Rattle.frame_kinds.specs.declared.kinds.Frame.TheVariants.{Sync, SafeRead, SafeResponse}
use Rattle.rules.specs.Calls.{tick_call, Call, act}
use Rattle.rules.specs.Fallback.{enter_fallback, enter_run}
use Rattle.rules.specs.Fixed.{doors_limit, is_limit, fits}
use Rattle.rules.specs.Inputs.{with_inputs}
use Rattle.rules.specs.Marks.{sequence_marked, skip_marked}
use Rattle.rules.specs.PowerUp.{power_regs}
use Rattle.rules.specs.Registers.{typ_at, low_bytes, low_number}
use Rattle.rules.specs.Replies.{Outcome, sync_reply, read_reply, send_frame, sent}
use Rattle.rules.specs.Requests.{distance, reads, on_ask, on_distance, on_request}
use Rattle.rules.specs.Sound.{settings_sound, sources_sound, counters_sound, outputs_zero, run_sound, fallback_sound, sound}
use Rattle.rules.specs.Sources.{holds, distinct, below24, is_recorded, sid_of}
use Rattle.rules.specs.Sync.{cycle_fits, heard_sync, synced, on_sync}
use Rattle.rules.specs.Tick.{counted, limited, cycle_ended, ticked}
use Rattle.rules.specs.Window.{width, in_window}
use Rattle.rules.specs.Writes.{span_at, span_of, on_write}
use Rattle.rules.specs.State.{with_taken}
use Rattle.rules.specs.declared.Agent.{Agent}
use Rattle.rules.proofs.AtLimit.{due_below, due_at}
use Rattle.rules.proofs.Cases.{Addressed}
use Rattle.rules.proofs.LaidServed.{Layable}
use Rattle.bench.specs.Cases.{after_prelude_of, after_prelude, AtLimit, InRun, on_time, asked, Says', p9, p10, p11, p12, p13, p14}
use Rattle.bench.specs.BusCalls.{own_sid, own_tid, concentrator, comes, syncs, seq_of, after, silent}
use Rattle.bench.proofs.Acting.{acted, acts_at, sync_lays, read_lays, write_lays, after_comes, after_append}
use Rattle.bench.proofs.Started.{ready, acted_sound, distance_is, limit_low, limit_byte, ready_sound, started, start_05, start_ff}

-- the answer to a frame that comes to the agent that another is known to be
answer_at : {addr : ℕ} {f : Frame} {xs : List ℕ} {a b : Agent} → Layable addr f xs → a ≡ b → (act a (comes addr f xs)).answer ≡ (acted 1 addr f xs b).answer
answer_at l e = ap (λ (o : Outcome). o.answer) (acts_at l e)

-- ---- P9
pub silence_19 : Says' p9
unfolding tick_call with_inputs ticked counted limited cycle_ended enter_fallback settings_sound sources_sound counters_sound outputs_zero run_sound fallback_sound sound fits holds distinct below24 is_recorded sid_of low_number power_regs low_bytes
silence_19 = (
  subst (InRun 0x05 0) (sym start_05) record { sound_is = refl; run = refl; t = refl; n = refl; m = refl; heard = refl; cyc = refl; e_is = refl },
  ap (λ (a : Agent). (after (silent 19) a).mode) start_05 ∙ refl,
  ap (λ (a : Agent). (after (silent 20) a).mode) start_05 ∙ refl,
)

-- ---- P10
abbrev pub timely : ℕ → ℕ → Agent → Agent
timely zero c a = a
timely (suc n) c a = timely n (suc c) (acted 1 0xFF (Sync concentrator (suc c)) [] (after (silent 10) a)).agent

on_time_lem : (n c : ℕ) → c + n < 256 → (a : Agent) → after (on_time n c) a ≡ timely n c a
on_time_lem zero c h a = refl
on_time_lem (suc n) c h a =
    after_append (silent 10) (syncs (suc c) ∷ on_time n (suc c)) a
    ∙ after_comes (sync_lays (suc c) (omega arith)) (on_time n (suc c)) (after (silent 10) a)
    ∙ on_time_lem n (suc c) (omega arith) (acted 1 0xFF (Sync concentrator (suc c)) [] (after (silent 10) a)).agent

pub timely_then : (calls : List Call) → after (on_time 4 0x05 ++ calls) (after_prelude 0x04 0x05) ≡ after calls (timely 4 0x05 (ready doors_limit 0x05 0))
timely_then calls =
    after_append (on_time 4 0x05) calls (after_prelude 0x04 0x05)
    ∙ ap (after calls) (on_time_lem 4 0x05 (omega arith) (after_prelude 0x04 0x05) ∙ ap (timely 4 0x05) start_05)

pub commands_49 : Says' p10
unfolding tick_call with_inputs ticked counted limited cycle_ended enter_fallback settings_sound sources_sound counters_sound outputs_zero run_sound fallback_sound sound fits holds distinct below24 is_recorded sid_of low_number power_regs low_bytes sent send_frame on_sync sync_reply synced heard_sync cycle_fits in_window width enter_run
commands_49 =
    (ap (λ (a : Agent). a.mode) (timely_then (silent 9)) ∙ refl, ap (λ (a : Agent). a.mode) (timely_then (silent 10)) ∙ refl)

-- ---- P11
nearly : after (silent 9) (after_prelude 0xFE 0xFF) ≡ after (silent 9) (ready doors_limit 0xFF 0)
nearly = ap (after (silent 9)) start_ff

pub wraps : Says' p11
unfolding tick_call with_inputs ticked counted limited cycle_ended enter_fallback settings_sound sources_sound counters_sound outputs_zero run_sound fallback_sound sound fits holds distinct below24 is_recorded sid_of low_number power_regs low_bytes sent send_frame on_sync sync_reply synced heard_sync cycle_fits in_window width enter_run sequence_marked
wraps = (
  subst (InRun 0xFF 9) (sym nearly) record { sound_is = refl; run = refl; t = refl; n = refl; m = refl; heard = refl; cyc = refl; e_is = refl },
  answer_at (sync_lays 0x00 (omega arith)) nearly ∙ refl,
  answer_at (sync_lays 0x01 (omega arith)) nearly ∙ refl,
)

-- ---- P12
pub last_output_lem : Says' p12
unfolding sent send_frame on_request on_distance skip_marked distance read_reply on_write span_at span_of enter_fallback settings_sound sources_sound counters_sound outputs_zero run_sound fallback_sound sound fits holds distinct below24 is_recorded sid_of low_number power_regs low_bytes
last_output_lem = (
  answer_at (write_lays 0x05 0 0xBF (0xA5 ∷ []) (omega arith) (omega arith) (omega arith)) start_05 ∙ refl,
  answer_at (write_lays 0x05 0 0xBF (0xA5 ∷ 0x5A ∷ []) (omega arith) (omega arith) (omega arith)) start_05 ∙ refl,
)

-- ---- P13
pub long_reads : Says' p13
unfolding sent send_frame on_request on_distance skip_marked distance read_reply on_write span_at span_of enter_fallback settings_sound sources_sound counters_sound outputs_zero run_sound fallback_sound sound fits holds distinct below24 is_recorded sid_of low_number power_regs low_bytes
long_reads = (
  ap (λ (o : Outcome). o.line) (acts_at (read_lays 0x05 0 254 0x02 (omega arith) (omega arith) (omega arith)) start_05)
      ∙ ap (λ (a : Agent). frame_line 0xF0 (SafeResponse concentrator own_sid 0x05 0xFC 0x70 254 0x02 0x00) (take 254 (drop 0x02 a.regs))) (sym start_05),
  ap (λ (o : Outcome). o.line) (acts_at (read_lays 0x05 0 255 0x00 (omega arith) (omega arith) (omega arith)) start_05) ∙ refl,
)

-- ---- P14, for either limit: one request more raises k by one, up to the limit
abbrev pub asking : ℕ → Frame
asking k = SafeRead own_sid concentrator 0x05 (seq_of 0x05 k) 1 typ_at

pub ask_lays : (k : ℕ) → Layable own_tid (asking k) []
ask_lays k = read_lays 0x05 k 1 typ_at (omega arith) (omega arith) (omega arith)

module _ (limit : ℕ) (fit : is_limit limit ≡ true) where
  pub addressed : (k : ℕ) → Addressed (ready limit 0x05 k) own_sid concentrator 0x05
  unfolding sid_of power_regs low_bytes low_number
  addressed k = record { somebody = λ z. omega (arith, z); last = refl; sid = refl; heard = refl; same = refl }

  -- below the limit it is taken
  one_taken : (k : ℕ) → k < limit → ((act (ready limit 0x05 k) (comes own_tid (asking k) [])).answer ≡ 0) × ((act (ready limit 0x05 k) (comes own_tid (asking k) [])).agent ≡ ready limit 0x05 (suc k))
  unfolding sent send_frame read_reply power_regs low_bytes sid_of low_number
  one_taken k h =
      let a : Agent = ready limit 0x05 k in
      let e : act a (comes own_tid (asking k) []) ≡ sent (on_ask 1 (with_taken (k + 1) a) concentrator (seq_of 0x05 k) (reads 1 typ_at)) =
      acts_at (ask_lays k) refl
      ∙ acted_sound own_tid (asking k) [] a (ready_sound limit fit 0x05 k (omega arith))
      ∙ ap sent (due_below 1 a own_sid concentrator 0x05 (seq_of 0x05 k) (reads 1 typ_at) (addressed k) (distance_is 0x05 k (omega arith) (omega (arith, limit_byte limit fit))) h) in
      (ap (λ (o : Outcome). o.answer) e ∙ refl, ap (λ (o : Outcome). o.agent) e ∙ ap (ready limit 0x05) (let z : k + 1 ≡ suc k = omega arith in z))

  all_taken : (n k : ℕ) → k + n ≤ limit → after (asked n k) (ready limit 0x05 k) ≡ ready limit 0x05 (k + n)
  all_taken zero k h = ap (ready limit 0x05) (let z : k ≡ k + 0 = omega arith in z)
  all_taken (suc n) k h =
      ap (after (asked n (suc k))) (one_taken k (omega arith)).1
      ∙ all_taken n (suc k) (omega arith)
      ∙ ap (ready limit 0x05) (let z : suc k + n ≡ k + suc n = omega arith in z)

  -- at the limit it is 15
  one_refused : (act (ready limit 0x05 limit) (comes own_tid (asking limit) [])).answer ≡ 15
  unfolding sent power_regs low_bytes
  one_refused =
      let a : Agent = ready limit 0x05 limit in
      ap (λ (o : Outcome). o.answer)
      (acts_at (ask_lays limit) refl
      ∙ acted_sound own_tid (asking limit) [] a (ready_sound limit fit 0x05 limit (omega arith))
      ∙ ap sent (due_at 1 a own_sid concentrator 0x05 (seq_of 0x05 limit) (reads 1 typ_at) (addressed limit) (distance_is 0x05 limit (omega arith) (limit_byte limit fit)) (omega arith)))

  pub reached : (n : ℕ) → n ≤ limit → after (asked n 0) (after_prelude_of limit 0x04 0x05) ≡ ready limit 0x05 n
  reached n h =
      ap (after (asked n 0)) (started limit fit 0x04 0x05 (omega arith) (omega arith) refl)
      ∙ all_taken n 0 (omega arith)
      ∙ ap (ready limit 0x05) (let z : 0 + n ≡ n = omega arith in z)

pub at_limit_lem : AtLimit
at_limit_lem limit fit = (
  ap (λ (a : Agent). (act a (comes own_tid (asking (limit - 1)) [])).answer) (reached limit fit (limit - 1) (omega arith))
      ∙ (one_taken limit fit (limit - 1) (omega (arith, limit_low limit fit))).0,
  ap (λ (a : Agent). (act a (comes own_tid (asking limit) [])).answer) (reached limit fit limit (omega arith)) ∙ one_refused limit fit,
)

-- with the limit of 64
pub sixty_four : Says' p14
sixty_four = at_limit_lem doors_limit refl

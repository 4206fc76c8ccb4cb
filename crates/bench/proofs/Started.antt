-- The start of P9 to P14, for either limit of requests, from the calls that lead to it: each is made on a sound agent. Assumes
-- nothing.
use mathlib.Core.Bool.{Bool, true, false, ◌&&◌}
use mathlib.Core.List.{List, [], ◌∷◌}
use mathlib.Core.Path.{◌≡◌, refl, ap, ◌∙◌}
use Prim.Native.Nat.{ℕ, ◌≤◌, ◌<◌}
use native.Mathlib.Omega.{arith}
use borrow.Author.Tests.{eqb-true}
use lib.Dec.{eqb}
use lib.ListN.{drop, replicate}
use lib.Seq.{sets}
use Rattle.base.specs.Choice.{choose}
use Rattle.base.proofs.Choosing.{choose_true, choose_false, or_cases}
use Rattle.frame_kinds.specs.declared.kinds.Frame.{Frame}
use Rattle.frame_kinds.specs.declared.kinds.Frame.TheVariants.{Sync, SafeWrite, SidAssignment}
use Rattle.rules.specs.Answers.{elsewhere, unsound}
use Rattle.rules.specs.Assignments.{on_first_sid, on_later_sid, on_sid}
use Rattle.rules.specs.Fallback.{enter_run}
use Rattle.rules.specs.Fixed.{lighting_limit, doors_limit, is_limit, fixed_by, fits}
use Rattle.rules.specs.FrameCall.{is_own, on_kind}
use Rattle.rules.specs.PowerUp.{power_regs, power_up}
use Rattle.rules.specs.Registers.{sid_at, out_rep, tcyc, low_bytes, low_number}
use Rattle.rules.specs.Replies.{Deed, Outcome, outcome, does, sync_reply, acknowledges, send_frame, sent}
use Rattle.rules.specs.Requests.{distance, writes}
use Rattle.rules.specs.Sound.{settings_sound, sources_sound, counters_sound, outputs_zero, run_sound, fallback_sound, sound}
use Rattle.rules.specs.Sources.{holds, distinct, below24, is_recorded, recorded, sid_of}
use Rattle.rules.specs.State.{in_run, in_fallback, is_heard, unheard, unmarked, nobody}
use Rattle.rules.specs.Sync.{heard_sync, synced, on_sync}
use Rattle.rules.specs.Writes.{span_at, span_of, on_write}
use Rattle.rules.specs.declared.Agent.{Agent}
use Rattle.rules.proofs.AtLimit.{due_below, relimited, sound_relimited}
use Rattle.rules.proofs.Cases.{Addressed}
use Rattle.rules.proofs.GoodStart.{limit_fits, good_start}
use Rattle.bench.specs.Cases.{after_prelude_of, after_prelude}
use Rattle.bench.specs.BusCalls.{module_of, own_sid, own_tid, concentrator, seq_of}
use Rattle.bench.proofs.Acting.{acted, assignment_lays, sync_lays, write_lays, Coming, agent_after, after_calls}

-- ---- the registers: the SID is there; t is 10; the release is ordered; RUN
abbrev named_regs : List ℕ
named_regs = sets (power_regs 0x01 0x02 0x00) sid_at (0x05 ∷ 0x00 ∷ 0x00 ∷ [])

abbrev timed_regs : List ℕ
timed_regs = sets named_regs tcyc (0x0A ∷ [])

abbrev released_regs : List ℕ
released_regs = sets timed_regs out_rep (0x55 ∷ [])

abbrev pub ready_regs : List ℕ
ready_regs = sets named_regs out_rep (0x55 ∷ 0x0A ∷ 0x00 ∷ [])

-- ---- the agents on the way: the concentrator is recorded, and no millisecond has passed
abbrev staged : (limit : ℕ) → List ℕ → (last c k mode heard : ℕ) → Agent
staged limit regs last c k mode heard = record {
  regs = regs;
  known = concentrator ∷ replicate 7 nobody;
  last = last;
  silence = 0;
  idle = 0;
  cycle = c;
  elapsed = 0;
  taken = k;
  mode = mode;
  heard = heard;
  mark = unmarked;
  count = 1;
  fixed = fixed_by limit;
}

-- RUN, with the concentrator's sync of CYC c accepted and k requests taken after it
abbrev pub ready : (limit c k : ℕ) → Agent
ready limit c k = staged limit ready_regs concentrator c k in_run is_heard

-- ---- what a frame does to a sound agent
abbrev pub deed_of : ℕ → Frame → List ℕ → Agent → Deed
deed_of addr f xs a = choose (is_own a addr) (on_kind 1 a f xs) (does elsewhere a)

pub acted_sound : (addr : ℕ) (f : Frame) (xs : List ℕ) (a : Agent) → sound a ≡ true → acted 1 addr f xs a ≡ sent (deed_of addr f xs a)
acted_sound addr f xs a s = choose_true (sent (deed_of addr f xs a)) (outcome unsound a) s

-- the request that follows k others has the distance k
pub distance_is : (cyc k : ℕ) → cyc < 256 → k < 256 → distance (seq_of cyc k) cyc ≡ k
unfolding distance
distance_is cyc k h i = omega arith

-- ---- the agents on the way are sound
first_sound : sound (staged doors_limit named_regs nobody 0x00 0 in_fallback unheard) ≡ true
unfolding settings_sound sources_sound counters_sound outputs_zero run_sound fallback_sound sound fits holds distinct below24 is_recorded sid_of low_number power_regs low_bytes
first_sound = refl

heard_sound : (b : ℕ) → sound (staged doors_limit named_regs concentrator b 0 in_fallback is_heard) ≡ true
unfolding settings_sound sources_sound counters_sound outputs_zero run_sound fallback_sound sound fits holds distinct below24 is_recorded sid_of low_number power_regs low_bytes
heard_sound b = refl

timed_sound : (b : ℕ) → sound (staged doors_limit timed_regs concentrator b 0 in_fallback is_heard) ≡ true
unfolding settings_sound sources_sound counters_sound outputs_zero run_sound fallback_sound sound fits holds distinct below24 is_recorded sid_of low_number power_regs low_bytes
timed_sound b = refl

released_sound : (b : ℕ) → sound (staged doors_limit released_regs concentrator b 0 in_fallback is_heard) ≡ true
unfolding settings_sound sources_sound counters_sound outputs_zero run_sound fallback_sound sound fits holds distinct below24 is_recorded sid_of low_number power_regs low_bytes
released_sound b = refl

run_sound_lem : (c : ℕ) → sound (ready doors_limit c 0) ≡ true
unfolding settings_sound sources_sound counters_sound outputs_zero run_sound fallback_sound sound fits holds distinct below24 is_recorded sid_of low_number power_regs low_bytes
run_sound_lem c = refl

module _ (limit : ℕ) (fit : is_limit limit ≡ true) where
  pub limit_low : 2 < limit
  limit_low =
      or_cases (eqb limit lighting_limit) (eqb limit doors_limit) fit
      (λ e. omega (arith, eqb-true limit lighting_limit e)) (λ e. omega (arith, eqb-true limit doors_limit e))

  pub limit_byte : limit < 256
  limit_byte =
      or_cases (eqb limit lighting_limit) (eqb limit doors_limit) fit
      (λ e. omega (arith, eqb-true limit lighting_limit e)) (λ e. omega (arith, eqb-true limit doors_limit e))

  sound_with : (a : Agent) (k : ℕ) → sound a ≡ true → k ≤ limit → sound (relimited (fixed_by limit) k a) ≡ true
  sound_with a k s h = sound_relimited a (fixed_by limit) k s (limit_fits limit fit) h

  pub ready_sound : (c k : ℕ) → k ≤ limit → sound (ready limit c k) ≡ true
  ready_sound c k h = sound_with (ready doors_limit c 0) k (run_sound_lem c) h

  acts : (addr : ℕ) (f : Frame) (xs : List ℕ) (a : Agent) → sound a ≡ true → (acted 1 addr f xs a).agent ≡ (sent (deed_of addr f xs a)).agent
  acts addr f xs a s = ap (λ (o : Outcome). o.agent) (acted_sound addr f xs a s)

  -- ---- the SID
  assigned : (acted 1 0xFF (SidAssignment concentrator 0x00000001 0x01 own_sid) [] (module_of limit)).agent ≡ staged limit named_regs nobody 0x00 0 in_fallback unheard
  unfolding on_first_sid on_later_sid on_sid power_regs power_up low_bytes low_number acknowledges send_frame sent recorded sid_of
  assigned =
      acts 0xFF (SidAssignment concentrator 0x00000001 0x01 own_sid) [] (module_of limit) (good_start 0x01 0x02 0x00 (fixed_by limit) (limit_fits limit fit)).sound_is
      ∙ refl

  module _ (b c : ℕ) (low : b < 256) (high : c < 256) (other : eqb c b ≡ false) where
    -- ---- the first sync, with CYC b
    heard_first : (acted 1 0xFF (Sync concentrator b) [] (staged limit named_regs nobody 0x00 0 in_fallback unheard)).agent ≡ staged limit named_regs concentrator b 0 in_fallback is_heard
    unfolding on_sync sync_reply synced heard_sync send_frame sent power_regs low_bytes low_number is_recorded holds sid_of
    heard_first =
        acts 0xFF (Sync concentrator b) [] (staged limit named_regs nobody 0x00 0 in_fallback unheard) (sound_with (staged doors_limit named_regs nobody 0x00 0 in_fallback unheard) 0 first_sound (omega arith))
        ∙ refl

    -- ---- two writes: t is 10, and the release
    addressed : (regs : List ℕ) (k : ℕ) → own_sid ≡ low_number regs sid_at 3 → Addressed (staged limit regs concentrator b k in_fallback is_heard) own_sid concentrator b
    unfolding sid_of
    addressed regs k e = record { somebody = λ z. omega (arith, z); last = refl; sid = e; heard = refl; same = refl }

    timed : (acted 1 own_tid (SafeWrite own_sid concentrator b (seq_of b 0) 1 tcyc) (0x0A ∷ []) (staged limit named_regs concentrator b 0 in_fallback is_heard)).agent
        ≡ staged limit timed_regs concentrator b 1 in_fallback is_heard
    unfolding on_write span_at span_of sent power_regs low_bytes low_number
    timed =
        let a : Agent = staged limit named_regs concentrator b 0 in_fallback is_heard in
        acts own_tid (SafeWrite own_sid concentrator b (seq_of b 0) 1 tcyc) (0x0A ∷ []) a (sound_with (staged doors_limit named_regs concentrator b 0 in_fallback is_heard) 0 (heard_sound b) (omega arith))
        ∙ ap (λ (d : Deed). (sent d).agent) (due_below 1 a own_sid concentrator b (seq_of b 0) (writes tcyc (0x0A ∷ [])) (addressed named_regs 0 refl) (distance_is b 0 low (omega arith)) (omega (arith, limit_low)))
        ∙ refl

    released : (acted 1 own_tid (SafeWrite own_sid concentrator b (seq_of b 1) 1 out_rep) (0x55 ∷ []) (staged limit timed_regs concentrator b 1 in_fallback is_heard)).agent
        ≡ staged limit released_regs concentrator b 2 in_fallback is_heard
    unfolding on_write span_at span_of sent power_regs low_bytes low_number
    released =
        let a : Agent = staged limit timed_regs concentrator b 1 in_fallback is_heard in
        acts own_tid (SafeWrite own_sid concentrator b (seq_of b 1) 1 out_rep) (0x55 ∷ []) a (sound_with (staged doors_limit timed_regs concentrator b 0 in_fallback is_heard) 1 (timed_sound b) (omega (arith, limit_low)))
        ∙ ap (λ (d : Deed). (sent d).agent) (due_below 1 a own_sid concentrator b (seq_of b 1) (writes out_rep (0x55 ∷ [])) (addressed timed_regs 1 refl) (distance_is b 1 low (omega arith)) (omega (arith, limit_low)))
        ∙ refl

    -- ---- the second sync, with CYC c, leads to RUN
    to_run : (acted 1 0xFF (Sync concentrator c) [] (staged limit released_regs concentrator b 2 in_fallback is_heard)).agent ≡ ready limit c 0
    unfolding on_sync sync_reply synced heard_sync enter_run send_frame sent power_regs low_bytes low_number is_recorded holds sid_of
    to_run =
        let a : Agent = staged limit released_regs concentrator b 2 in_fallback is_heard in
        acts 0xFF (Sync concentrator c) [] a (sound_with (staged doors_limit released_regs concentrator b 0 in_fallback is_heard) 2 (released_sound b) (omega (arith, limit_low)))
        ∙ ap (λ (d : Deed). (sent d).agent) (choose_false _ _ (ap (λ (t : Bool). t && true) other))
        ∙ refl

    abbrev coming : List Coming
    coming =
        record { port = 1; addr = 0xFF; f = SidAssignment concentrator 0x00000001 0x01 own_sid; xs = []; on_port = refl; lays = assignment_lays }
        ∷ record { port = 1; addr = 0xFF; f = Sync concentrator b; xs = []; on_port = refl; lays = sync_lays b low }
        ∷ record { port = 1; addr = own_tid; f = SafeWrite own_sid concentrator b (seq_of b 0) 1 tcyc; xs = 0x0A ∷ []; on_port = refl; lays = write_lays b 0 tcyc (0x0A ∷ []) low (omega arith) (omega arith) }
        ∷ record { port = 1; addr = own_tid; f = SafeWrite own_sid concentrator b (seq_of b 1) 1 out_rep; xs = 0x55 ∷ []; on_port = refl; lays = write_lays b 1 out_rep (0x55 ∷ []) low (omega arith) (omega arith) }
        ∷ record { port = 1; addr = 0xFF; f = Sync concentrator c; xs = []; on_port = refl; lays = sync_lays c high }
        ∷ []

    pub started : after_prelude_of limit b c ≡ ready limit c 0
    started =
        after_calls coming (module_of limit)
        ∙ ap (λ (a : Agent). agent_after (drop 1 coming) a) assigned
        ∙ ap (λ (a : Agent). agent_after (drop 2 coming) a) heard_first
        ∙ ap (λ (a : Agent). agent_after (drop 3 coming) a) timed
        ∙ ap (λ (a : Agent). agent_after (drop 4 coming) a) released
        ∙ to_run

pub start_05 : after_prelude 0x04 0x05 ≡ ready doors_limit 0x05 0
start_05 = started doors_limit refl 0x04 0x05 (omega arith) (omega arith) refl

pub start_ff : after_prelude 0xFE 0xFF ≡ ready doors_limit 0xFF 0
start_ff = started doors_limit refl 0xFE 0xFF (omega arith) (omega arith) refl

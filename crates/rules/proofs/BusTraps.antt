-- Document 01, "Traps of this bus", and what else is easily got wrong: what the rules do there, rule by rule.
-- Assumes nothing.
use mathlib.Core.Bool.{true, false, not, ◌&&◌, ◌||◌}
use mathlib.Core.List.{List, [], ◌∷◌}
use mathlib.Core.Path.{◌≡◌, refl, ◌∙◌}
use Prim.Native.Nat.{ℕ, ◌+◌, ◌-◌, ◌<◌}
use native.Mathlib.Omega.{arith}
use lib.Dec.{eqb}
use lib.Bits.{bit_and, bit_or}
use lib.ListN.{length, replicate, get_or-replicate}
use lib.Seq.{sets, length-sets}
use Rattle.base.proofs.Choosing.{by_test, choose_true, or_second}
use Rattle.base.proofs.Stored.{stored_behind, stored_in}
use Rattle.rules.specs.Answers.{source, cycle, repeat}
use Rattle.rules.specs.Fallback.{released, withheld, ground_after, enter_fallback, enter_run}
use Rattle.rules.specs.Good.{Good}
use Rattle.rules.specs.Grounds.{by_sync_silence}
use Rattle.rules.specs.Marks.{sequence_marked}
use Rattle.rules.specs.Registers.{out_rep, statut, ground_at, outputs_at, image}
use Rattle.rules.specs.Replies.{does}
use Rattle.rules.specs.Requests.{Ask, on_request}
use Rattle.rules.specs.Sources.{is_recorded, sid_of}
use Rattle.rules.specs.State.{in_fallback, is_heard, nobody, running, reg}
use Rattle.rules.specs.Sync.{is_repeat, cycle_fits, heard_sync, synced, on_sync}
use Rattle.rules.specs.Tick.{sync_limit, limited}
use Rattle.rules.specs.declared.Agent.{Agent}
use Rattle.rules.proofs.GoodFacts.{fallback_zero}

module _ (port : ℕ) (a : Agent) (src cyc : ℕ) (known : (eqb src nobody || not (is_recorded a src)) ≡ false) where
  -- a repeated sync is 13 and changes nothing, so k is not reset; 13 comes before 12
  pub repeated_sync : is_repeat a src cyc ≡ true → on_sync port a src cyc ≡ does repeat a
  unfolding on_sync
  repeated_sync e = simp (known, e)

  -- a sync that is refused with 12 does not restart the silence clock
  pub refused_sync : is_repeat a src cyc ≡ false → (running a && not (cycle_fits a cyc)) ≡ true → (on_sync port a src cyc).agent.silence ≡ a.silence
  unfolding on_sync enter_fallback sequence_marked
  refused_sync e f = simp (known, e, f)

module _ (port : ℕ) (a : Agent) (dest src cyc seq : ℕ) (ask : Ask) where
  -- a request of a concentrator other than that of the last accepted sync, recorded or not, is 10
  pub deposed_request : not (eqb src a.last) ≡ true → on_request port a dest src cyc seq ask ≡ does source a
  unfolding on_request
  deposed_request e = choose_true (does source a) _ (or_second (eqb src nobody) (not (eqb src a.last)) e)

  -- in an unheard cycle no request is taken: 12
  pub unheard_request : (eqb src nobody || not (eqb src a.last)) ≡ false → not (eqb dest (sid_of a)) ≡ false → eqb a.heard is_heard ≡ false
      → on_request port a dest src cyc seq ask ≡ does cycle (sequence_marked a)
  unfolding on_request
  unheard_request e f g = simp (e, f, g)

-- no output outlasts the entry to fallback
pub fallback_clears : (g : ℕ) (a : Agent) → length a.regs ≡ 256 → (i : ℕ) → i < image → reg (enter_fallback g a) (outputs_at + i) ≡ 0
unfolding enter_fallback
fallback_clears g a e i h =
    let s : List ℕ = sets a.regs statut (bit_or (reg a statut) 0x80 ∷ []) in
    let q : List ℕ = sets s out_rep (withheld ∷ []) in
    let r : List ℕ = sets q ground_at (ground_after g a ∷ []) in
    let l : length r ≡ 256 =
    length-sets q ground_at (ground_after g a ∷ []) ∙ length-sets s out_rep (withheld ∷ []) ∙ length-sets a.regs statut (bit_or (reg a statut) 0x80 ∷ []) ∙ e in
    stored_in r outputs_at (replicate image 0) (outputs_at + i) (omega arith) (omega arith) (omega arith)
    ∙ get_or-replicate image (outputs_at + i - outputs_at) 0 0 (omega arith)

-- no release is left pending after n × t of silence: OUT_REP falls in either mode
pub silent_release : (a : Agent) → sync_limit a ≡ true → limited a ≡ enter_fallback by_sync_silence a
unfolding limited
silent_release a e = simp e

-- CYC 00h follows FFh
pub cycle_wraps : (a : Agent) → a.cycle ≡ 0xFF → cycle_fits a 0x00 ≡ true
unfolding cycle_fits
cycle_wraps a e = simp e

-- q starts at 0 on entry to RUN
pub run_restarts : (a : Agent) → (enter_run a).idle ≡ 0
unfolding enter_run
run_restarts a = refl

-- and 26h keeps what it showed
pub run_keeps_ground : (a : Agent) → reg (enter_run a) ground_at ≡ reg a ground_at
unfolding enter_run
run_keeps_ground a = stored_behind a.regs statut (bit_and (reg a statut) 0x7F ∷ []) ground_at (omega arith)

-- and every output is 00h there: a sound state in fallback has them so, and the way to RUN leaves them
pub run_starts_zero : (a : Agent) → Good a → a.mode ≡ in_fallback → (src cyc i : ℕ) → i < image → reg (synced src cyc a) (outputs_at + i) ≡ 0
unfolding synced heard_sync enter_run
run_starts_zero a g m src cyc i h =
    by_test (λ (b : Agent). reg b (outputs_at + i) ≡ 0) (not (running a) && eqb (reg a out_rep) released)
    (λ e. stored_behind a.regs statut (bit_and (reg a statut) 0x7F ∷ []) (outputs_at + i) (omega arith) ∙ fallback_zero a g m i h)
    (λ e. fallback_zero a g m i h)

-- The claim is not empty: for each of its clauses a made-up history that breaks it, which the claim refuses.
-- Assumes nothing.
use mathlib.Core.List.{[], ◌∷◌}
use mathlib.Core.Path.{◌≡◌, refl, sym}
use Prim.Native.Nat.{ℕ}
use native.Mathlib.Omega.{arith}
use Rattle.rules.specs.Answers.{unsound}
use Rattle.rules.specs.Calls.{Call, tick}
use Rattle.rules.specs.State.{in_run, in_fallback}
use Rattle.demand3.specs.Claim.{OutputsRight, same, fell, written, now, Holds}
use Rattle.demand3.specs.Events.{a_tick, a_sync, a_request, event_of, Request}
use Rattle.demand3.specs.History.{power_on, ◌▸◌, Seen, Entry, call_entry}
use Rattle.demand3.specs.Words.{AllDiffer, Released, ordered, still}

-- a module with t = n = m = 1 in a mode, each output at x
abbrev pub shows : ℕ → ℕ → Seen
shows mode x = record { mode = mode; out = λ i. x; t = 1; n = 1; m = 1; ground = 0 }

abbrev pub tick_entry : Seen → Seen → Entry
tick_entry x y = call_entry (tick []) 0 x y

pub is_tick : event_of (tick []) 0 ≡ a_tick
unfolding event_of
is_tick = refl

tick_no_sync : (src cyc : ℕ) → event_of (tick []) 0 ≡ a_sync src cyc → ⊥
tick_no_sync src cyc e = let z : ◌≡◌ {A = ℕ} 0 1 = cc (is_tick) in omega arith

tick_no_request : (r : Request) → event_of (tick []) 0 ≡ a_request r → ⊥
tick_no_request r e = let z : ◌≡◌ {A = ℕ} 0 1 = cc (is_tick) in omega arith

-- ---- outputs

-- a tick changes an output in RUN
pub changed_by_tick : Holds (power_on ▸ tick_entry (shows in_run 0) (shows in_run 7)) → ⊥
changed_by_tick h = by (h.outputs _ _ now)
  where
    by : OutputsRight power_on (tick_entry (shows in_run 0) (shows in_run 7)) → ⊥
    by (same f) = omega (arith, f 0 (omega arith))
    by (fell f g) = omega (arith, f.to)
    by (written w) = let c = w.called in let z : ◌≡◌ {A = ℕ} 0 1 = cc in omega arith

-- a tick takes the module into fallback and changes the outputs, but not to zero
pub left_not_zero : Holds (power_on ▸ tick_entry (shows in_run 5) (shows in_fallback 7)) → ⊥
left_not_zero h = by (h.outputs _ _ now)
  where
    by : OutputsRight power_on (tick_entry (shows in_run 5) (shows in_fallback 7)) → ⊥
    by (same f) = omega (arith, f 0 (omega arith))
    by (fell f g) = omega (arith, g.zero 0 (omega arith))
    by (written w) = let c = w.called in let z : ◌≡◌ {A = ℕ} 0 1 = cc in omega arith

-- a call takes the module into fallback and keeps the outputs
pub left_unchanged : (call : Call) → Holds (power_on ▸ call_entry call 0 (shows in_run 7) (shows in_fallback 7)) → ⊥
left_unchanged call h = omega (arith, (h.leaving_run _ _ now record { from = refl; to = refl }).zero 0 (omega arith))

-- ---- numbers

-- a number is taken twice
pub taken_twice : (c d : Call) (r q : Request) → event_of c 0 ≡ a_request r → event_of d 0 ≡ a_request q → r.seq ≡ q.seq
    → Holds (power_on ▸ call_entry c 0 (shows in_run 0) (shows in_run 0) ▸ call_entry d 0 (shows in_run 0) (shows in_run 0)) → ⊥
taken_twice c d r q e f s h =
    let all : AllDiffer (q.seq ∷ r.seq ∷ []) = rw (f, e) at (h.numbers _ _ now) in
    all.0.0 (sym s)

-- ---- silence

-- RUN goes on at the sync limit
pub run_past_sync_limit : Holds (power_on ▸ tick_entry (shows in_run 0) (shows in_run 0)) → ⊥
run_past_sync_limit h = omega (arith, (h.bounded.sync_silence _ _ now record { tick = is_tick; limit = rw is_tick (omega arith) }).mode)

-- at the sync limit, in fallback, outputs are not zero
pub fallback_not_zero : Holds (power_on ▸ tick_entry (shows in_fallback 7) (shows in_fallback 7)) → ⊥
fallback_not_zero h = omega (arith, (h.bounded.sync_silence _ _ now record { tick = is_tick; limit = rw is_tick (omega arith) }).zero 0 (omega arith))

-- with the sync limit far off
abbrev slow : ℕ → ℕ → Seen
slow mode x = record { mode = mode; out = λ i. x; t = 1; n = 200; m = 1; ground = 0 }

-- RUN goes on at the other limit
pub run_past_command_limit : Holds (power_on ▸ tick_entry (slow in_run 7) (slow in_run 7)) → ⊥
run_past_command_limit h = omega (arith, (h.command_silence _ _ now record { tick = is_tick; run = refl; limit = rw is_tick (omega arith) }).mode)

-- ---- entry to RUN

-- by a tick
pub run_by_tick : Holds (power_on ▸ tick_entry (shows in_fallback 0) (shows in_run 0)) → ⊥
run_by_tick h = let e = h.bounded.entry_to_run _ _ now record { from = refl; to = refl } in tick_no_sync e.src e.cyc e.by_sync

-- with no release at all
no_release : Released power_on → ⊥
no_release r = elim r [ ]

pub run_without_release : (call : Call) → Holds (power_on ▸ call_entry call 0 (shows in_fallback 0) (shows in_run 0)) → ⊥
run_without_release call h = no_release (h.bounded.entry_to_run _ _ now record { from = refl; to = refl }).released

-- with a tick at the sync limit behind the release
pub release_before_limit : (order sync : Call)
    → Holds (power_on ▸ call_entry order 0 (shows in_fallback 0) (shows in_fallback 0) ▸ tick_entry (shows in_fallback 0) (shows in_fallback 0)
    ▸ call_entry sync 0 (shows in_fallback 0) (shows in_run 0)) → ⊥
release_before_limit order sync h = by (h.bounded.entry_to_run _ _ now record { from = refl; to = refl }).released
  where
    by : Released (power_on ▸ call_entry order 0 (shows in_fallback 0) (shows in_fallback 0) ▸ tick_entry (shows in_fallback 0) (shows in_fallback 0)) → ⊥
    by (ordered r e o) = tick_no_request r e
    by (still r f g) = g record { tick = is_tick; limit = rw is_tick (omega arith) }

-- with RUN left behind the release
pub release_before_leaving : (order sync : Call)
    → Holds (power_on ▸ call_entry order 0 (slow in_run 0) (slow in_run 0) ▸ tick_entry (slow in_run 0) (slow in_fallback 0)
    ▸ call_entry sync 0 (slow in_fallback 0) (slow in_run 0)) → ⊥
release_before_leaving order sync h = by (h.bounded.entry_to_run _ _ now record { from = refl; to = refl }).released
  where
    by : Released (power_on ▸ call_entry order 0 (slow in_run 0) (slow in_run 0) ▸ tick_entry (slow in_run 0) (slow in_fallback 0)) → ⊥
    by (ordered r e o) = tick_no_request r e
    by (still r f g) = f record { from = refl; to = refl }

-- ---- modes and answers

-- a third mode
pub third_mode : Holds (power_on ▸ tick_entry (shows in_run 0) (shows 2 0)) → ⊥
third_mode h = omega (arith, h.bounded.two_modes _ _ now (λ p. omega arith))

-- an answer of 19
pub answered_19 : (call : Call) → Holds (power_on ▸ call_entry call unsound (shows in_fallback 0) (shows in_fallback 0)) → ⊥
answered_19 call h = h.bounded.no_19 _ _ now refl

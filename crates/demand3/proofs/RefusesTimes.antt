-- The window's clauses are not empty either: made-up histories that break them, which the claim refuses. Assumes nothing.
use mathlib.Core.Option.{none}
use mathlib.Core.Path.{◌≡◌, refl}
use Prim.Native.Nat.{ℕ}
use native.Mathlib.Omega.{arith}
use Rattle.rules.specs.Answers.{accepted, outside_window}
use Rattle.rules.specs.Calls.{Call}
use Rattle.rules.specs.State.{in_run, in_fallback}
use Rattle.demand3.specs.Claim.{Safe, InWindow, now, Holds}
use Rattle.demand3.specs.Events.{a_sync, a_missed_sync, event_of}
use Rattle.demand3.specs.History.{History, power_on, ◌▸◌, Seen, call_entry}
use Rattle.demand3.specs.Words.{last_sync, silence}
use Rattle.demand3.proofs.Refuses.{tick_entry, is_tick}

-- a module with t, each output at x; both limits on silence are far off
abbrev timed : ℕ → ℕ → ℕ → Seen
timed t mode x = record { mode = mode; out = λ i. x; t = t; n = 200; m = 200; ground = 0 }

-- ---- a sync accepted in RUN, with t 16 and w 2
module _ (past : History) (sync : Call) (src cyc : ℕ) (is-sync : event_of sync accepted ≡ a_sync src cyc) where
  abbrev Claimed : Type 0
  Claimed = Holds (past ▸ call_entry sync accepted (timed 16 in_run 0) (timed 16 in_run 0))

  claimed : Claimed → InWindow past 16
  claimed h = h.sync_window _ _ now record { src = src; cyc = cyc; sync = is-sync; run = refl }

  -- no sync was accepted before it
  pub never_synced : last_sync past ≡ none → Claimed → ⊥
  never_synced e h = let w = claimed h in let z : ◌≡◌ {A = ℕ} 0 1 = cc (e, w.accepted_before) in omega arith

  -- 13 ticks after the one before it: too early
  pub too_early : silence past ≡ 13 → Claimed → ⊥
  too_early e h = omega (arith, e, (claimed h).least)

  -- 19 ticks after it: more than 2 from one cycle and from two
  pub between : silence past ≡ 19 → Claimed → ⊥
  between e h = let w = claimed h in omega (arith, e, w.above, w.below)

-- ---- t changes in a call on a module in RUN
pub other_cycle : (past : History) (call : Call) (n : ℕ) → Holds (past ▸ call_entry call n (timed 16 in_run 0) (timed 8 in_run 0)) → ⊥
other_cycle past call n h = omega (arith, h.steady_cycle _ _ now refl)

-- ---- a tick after a sync refused with 22, with t 1
module _ (miss : Call) (is-missed : event_of miss outside_window ≡ a_missed_sync) where
  abbrev behind : Seen → History
  behind x = power_on ▸ call_entry miss outside_window (timed 1 in_run 7) (timed 1 in_run 7) ▸ tick_entry (timed 1 in_run 7) x

  claimed_safe : (x : Seen) → Holds (behind x) → Safe x
  claimed_safe x h = h.missed_sync _ _ now record { ticks = 1; tick = is_tick; since = rw (is_tick, is-missed) refl; limit = omega arith }

  -- RUN goes on
  pub run_past_window : Holds (behind (timed 1 in_run 7)) → ⊥
  run_past_window h = omega (arith, (claimed_safe (timed 1 in_run 7) h).mode)

  -- or the outputs are kept
  pub outputs_past_window : Holds (behind (timed 1 in_fallback 7)) → ⊥
  outputs_past_window h = omega (arith, (claimed_safe (timed 1 in_fallback 7) h).zero 0 (omega arith))

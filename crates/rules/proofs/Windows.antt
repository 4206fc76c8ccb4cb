-- The reception window at its edges, and what is easily got wrong there: its place in the order, what clears the mark, and what a
-- marked end of the cycle does. Assumes nothing.
use mathlib.Core.Bool.{Bool, true, false, not, ◌&&◌, ◌||◌}
use mathlib.Core.List.{[], ◌∷◌, map}
use mathlib.Core.Path.{◌≡◌, refl, ap, ◌∙◌}
use Prim.Native.Nat.{ℕ, ◌+◌, ◌%◌, ◌≤◌, ◌<◌}
use native.Mathlib.Omega.{arith}
use borrow.Author.Tests.{eq-eqb, ne_eqb, le-leb, lt-leb}
use lib.Dec.{eqb, leb}
use Rattle.base.proofs.Choosing.{by_test, choose_true, choose_false}
use Rattle.rules.specs.Answers.{cycle, outside_window}
use Rattle.rules.specs.Fallback.{released, enter_fallback, enter_run}
use Rattle.rules.specs.Grounds.{by_wrong_cycle, by_window}
use Rattle.rules.specs.Marks.{sequence_marked, window_marked}
use Rattle.rules.specs.Registers.{out_rep}
use Rattle.rules.specs.Replies.{does, sync_reply}
use Rattle.rules.specs.Sources.{is_recorded}
use Rattle.rules.specs.State.{in_run, in_fallback, is_marked, unmarked, nobody, running, reg, t_of}
use Rattle.rules.specs.Sync.{is_repeat, cycle_fits, heard_sync, synced, on_sync}
use Rattle.rules.specs.Tick.{sync_limit, command_limit, window_limit, limited}
use Rattle.rules.specs.Window.{width, in_window}
use Rattle.rules.specs.declared.Agent.{Agent}

-- ---- w

-- for t = 1, 7, 8, 15, 16, 255
pub widths : map width (1 ∷ 7 ∷ 8 ∷ 15 ∷ 16 ∷ 255 ∷ []) ≡ 1 ∷ 1 ∷ 1 ∷ 1 ∷ 2 ∷ 31 ∷ []
unfolding width
widths = refl

pub width_some : (t : ℕ) → 1 ≤ width t
unfolding width
width_some t = omega arith

-- never more than the cycle
pub width_most : (t : ℕ) → 1 ≤ t → width t ≤ t
unfolding width
width_most t h = omega arith

-- ---- its two ends
module _ (a : Agent) (cyc : ℕ) where
  -- the next cycle's sync: from t − w on
  pub next_is : cyc ≡ (a.cycle + 1) % 256 → in_window a cyc ≡ leb (t_of a) (a.elapsed + width (t_of a))
  unfolding in_window
  next_is c = choose_true _ _ (eq-eqb cyc ((a.cycle + 1) % 256) c)

  pub next_early : cyc ≡ (a.cycle + 1) % 256 → a.elapsed + width (t_of a) < t_of a → in_window a cyc ≡ false
  next_early c h = next_is c ∙ lt-leb (t_of a) (a.elapsed + width (t_of a)) h

  pub next_timely : cyc ≡ (a.cycle + 1) % 256 → t_of a ≤ a.elapsed + width (t_of a) → in_window a cyc ≡ true
  next_timely c h = next_is c ∙ le-leb (t_of a) (a.elapsed + width (t_of a)) h

  -- this cycle's sync: up to w
  pub same_is : (cyc ≡ (a.cycle + 1) % 256 → ⊥) → in_window a cyc ≡ leb a.elapsed (width (t_of a))
  unfolding in_window
  same_is c = choose_false _ _ (ne_eqb cyc ((a.cycle + 1) % 256) c)

  pub same_late : (cyc ≡ (a.cycle + 1) % 256 → ⊥) → width (t_of a) < a.elapsed → in_window a cyc ≡ false
  same_late c h = same_is c ∙ lt-leb a.elapsed (width (t_of a)) h

  pub same_timely : (cyc ≡ (a.cycle + 1) % 256 → ⊥) → a.elapsed ≤ width (t_of a) → in_window a cyc ≡ true
  same_timely c h = same_is c ∙ le-leb a.elapsed (width (t_of a)) h

-- ---- its place among the tests of a sync
module _ (port : ℕ) (a : Agent) (src cyc : ℕ) (known : (eqb src nobody || not (is_recorded a src)) ≡ false) (fresh : is_repeat a src cyc ≡ false) where
  -- in fallback a sync may come at any time
  pub any_time : running a ≡ false → on_sync port a src cyc ≡ sync_reply port (synced src cyc a) src cyc
  unfolding on_sync
  any_time e = simp (known, fresh, e)

  -- a wrong cycle is 12, in the window or not
  pub cycle_first : running a ≡ true → cycle_fits a cyc ≡ false → on_sync port a src cyc ≡ does cycle (enter_fallback by_wrong_cycle (sequence_marked a))
  unfolding on_sync
  cycle_first e f = simp (known, fresh, e, f)

  -- the right one is 22 outside the window: bit 1 and the mark, and no counter
  pub missed_sync : running a ≡ true → cycle_fits a cyc ≡ true → in_window a cyc ≡ false → on_sync port a src cyc ≡ does outside_window (window_marked a)
  unfolding on_sync
  missed_sync e f w = simp (known, fresh, e, f, w)

  -- and is accepted in it
  pub timely_sync : cycle_fits a cyc ≡ true → in_window a cyc ≡ true → on_sync port a src cyc ≡ sync_reply port (synced src cyc a) src cyc
  unfolding on_sync
  timely_sync f w = go (running a) refl
    where
      go : (b : Bool) → running a ≡ b → on_sync port a src cyc ≡ sync_reply port (synced src cyc a) src cyc
      go true e = simp (known, fresh, e, f, w)
      go false e = any_time e

-- ---- the mark
pub fallback_unmarks : (g : ℕ) (a : Agent) → (enter_fallback g a).mark ≡ unmarked
unfolding enter_fallback
fallback_unmarks g a = refl

pub sync_unmarks : (a : Agent) (src cyc : ℕ) → (synced src cyc a).mark ≡ unmarked
unfolding synced heard_sync enter_run
sync_unmarks a src cyc = by_test (λ (b : Agent). b.mark ≡ unmarked) (not (running a) && eqb (reg a out_rep) released) (λ e. refl) (λ e. refl)

pub missed_marks : (a : Agent) → (window_marked a).mark ≡ is_marked
unfolding window_marked
missed_marks a = refl

-- a marked end of the cycle in RUN is fallback
pub marked_end : (a : Agent) → a.mode ≡ in_run → a.mark ≡ is_marked → t_of a ≤ a.elapsed → (limited a).mode ≡ in_fallback
unfolding limited enter_fallback
marked_end a run mark end =
    by_test (λ (b : Agent). b.mode ≡ in_fallback) (sync_limit a) (λ e. refl)
    (λ e. by_test (λ (b : Agent). b.mode ≡ in_fallback) (command_limit a) (λ f. refl)
    (λ f. ap (λ (b : Agent). b.mode) (choose_true {b = window_limit a} (enter_fallback by_window a) a (rw (run, mark) (le-leb (t_of a) a.elapsed end)))))

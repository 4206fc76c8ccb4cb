-- Sync. Assumes nothing.
use Rattle.std.specs.Prelude.{Bool, not, ◌&&◌, ◌||◌, ℕ, ◌+◌, ◌%◌, eqb}
use Rattle.base.specs.Choice.{choose}
use Rattle.rules.specs.Answers.{source, cycle, repeat, outside_window}
use Rattle.rules.specs.Fallback.{released, enter_fallback, enter_run}
use Rattle.rules.specs.Grounds.{by_wrong_cycle}
use Rattle.rules.specs.Marks.{sequence_marked, window_marked}
use Rattle.rules.specs.Registers.{out_rep}
use Rattle.rules.specs.Replies.{Deed, does, sync_reply}
use Rattle.rules.specs.Sources.{is_recorded}
use Rattle.rules.specs.State.{is_heard, unmarked, nobody, running, reg, with_cycle, with_sync, with_mark}
use Rattle.rules.specs.Window.{in_window}
use Rattle.rules.specs.declared.Agent.{Agent}

-- a repeat: heard, CYC = c and the same source as the last accepted sync
abbrev pub is_repeat : Agent → ℕ → ℕ → Bool
is_repeat a src cyc = eqb a.heard is_heard && eqb cyc a.cycle && eqb src a.last

-- a heard cycle accepts CYC = c + 1, an unheard one c or c + 1 (modulo 256)
unfoldable pub cycle_fits : Agent → ℕ → Bool
cycle_fits a cyc = eqb cyc ((a.cycle + 1) % 256) || (not (eqb a.heard is_heard) && eqb cyc a.cycle)

-- accepted: c = CYC, heard, e = s = k = 0, no mark
unfoldable pub heard_sync : ℕ → ℕ → Agent → Agent
heard_sync src cyc a = with_mark unmarked (with_sync src 0 (with_cycle cyc is_heard 0 0 a))

-- the same, and in fallback with OUT_REP 55h the mode becomes RUN
unfoldable pub synced : ℕ → ℕ → Agent → Agent
synced src cyc a = choose (not (running a) && eqb (reg a out_rep) released) (enter_run (heard_sync src cyc a)) (heard_sync src cyc a)

-- 10, then 13 before 12, then 22; 12 and 22 come in RUN only; 12 leads to fallback
unfoldable pub on_sync : ℕ → Agent → ℕ → ℕ → Deed
on_sync port a src cyc =
    choose (eqb src nobody || not (is_recorded a src)) (does source a)
    (choose (is_repeat a src cyc) (does repeat a)
    (choose (running a && not (cycle_fits a cyc)) (does cycle (enter_fallback by_wrong_cycle (sequence_marked a)))
    (choose (running a && not (in_window a cyc)) (does outside_window (window_marked a))
    (sync_reply port (synced src cyc a) src cyc))))

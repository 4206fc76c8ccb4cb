-- Tick. Assumes nothing.
use Rattle.std.specs.Prelude.{Bool, ◌&&◌, ℕ, ◌+◌, ◌*◌, ◌%◌, leb, ltb}
use Rattle.base.specs.Choice.{choose}
use Rattle.rules.specs.Fallback.{enter_fallback}
use Rattle.rules.specs.Grounds.{by_sync_silence, by_command_silence, by_window}
use Rattle.rules.specs.State.{unheard, running, t_of, n_of, m_of, with_clock, with_cycle}
use Rattle.rules.specs.Window.{marked}
use Rattle.rules.specs.declared.Agent.{Agent}

-- s stops here
abbrev pub silence_end : ℕ
silence_end = 65535

-- add 1 to e and s, and to q in RUN
unfoldable pub counted : Agent → Agent
counted a =
    with_clock (a.elapsed + 1) (choose (ltb a.silence silence_end) (a.silence + 1) silence_end)
    (choose (running a) (a.idle + 1) a.idle) a

-- s is at least n × t; in RUN, q is at least m × t
abbrev pub sync_limit : Agent → Bool
sync_limit a = leb (n_of a * t_of a) a.silence

abbrev pub command_limit : Agent → Bool
command_limit a = running a && leb (m_of a * t_of a) a.idle

-- the clock ends the cycle: e is at least t; in RUN with the mark set this too is a limit
abbrev pub cycle_over : Agent → Bool
cycle_over a = leb (t_of a) a.elapsed

abbrev pub window_limit : Agent → Bool
window_limit a = running a && marked a && cycle_over a

-- fallback at the sync limit, in either mode, or else at the command limit, or else at that of the window; the first is the ground
unfoldable pub limited : Agent → Agent
limited a =
    choose (sync_limit a) (enter_fallback by_sync_silence a)
    (choose (command_limit a) (enter_fallback by_command_silence a)
    (choose (window_limit a) (enter_fallback by_window a) a))

-- at the end of the cycle c becomes c + 1 modulo 256, unheard, e = 0, k = 0
unfoldable pub cycle_ended : Agent → Agent
cycle_ended a = choose (cycle_over a) (with_cycle ((a.cycle + 1) % 256) unheard 0 0 a) a

unfoldable pub ticked : Agent → Agent
ticked a = cycle_ended (limited (counted a))

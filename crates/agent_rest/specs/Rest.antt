-- A module at rest, and what a tick moves of it. Assumes nothing.
use Rattle.std.specs.Prelude.{◌≡◌, true, length, ◌<◌, ℕ, zero, suc, ◌+◌, ◌%◌, Bool, not, ◌&&◌, ◌==◌, nat_le, nat_lt}
use Rattle.base.specs.Choice.{choose}
use Rattle.rules.specs.Fallback.{withheld}
use Rattle.rules.specs.Registers.{out_rep, statut}
use Rattle.rules.specs.Sound.{sound}
use Rattle.rules.specs.State.{unheard, unmarked, running, reg, t_of, with_clock, with_cycle}
use Rattle.rules.specs.Tick.{silence_end}
use Rattle.rules.specs.declared.Agent.{Agent}
use Rattle.agent_rest.specs.declared.Clock.{Clock}

-- in fallback, not released, without a mark
abbrev pub is_calm : Agent → Bool
is_calm a = not (running a) && reg a out_rep == withheld && a.mark == unmarked

-- and sound
unfoldable pub at_rest : Agent → Bool
at_rest a = is_calm a && sound a

-- and its registers are bytes
pub record Rests (a : Agent) : Type 0 where
  pub rest_is : at_rest a ≡ true
  pub registers : length a.regs ≡ 256
  pub status_byte : reg a statut < 256
  pub t_byte : t_of a < 256

-- e, s, c, heard and k of a module, and a module with others
abbrev pub clock_of : Agent → Clock
clock_of a = record { elapsed = a.elapsed; silence = a.silence; cycle = a.cycle; heard = a.heard; taken = a.taken }

abbrev pub with_clock_of : Clock → Agent → Agent
with_clock_of clock a = with_cycle clock.cycle clock.heard clock.elapsed clock.taken (with_clock clock.elapsed clock.silence a.idle a)

abbrev pub more_silence : ℕ → ℕ
more_silence s = choose (nat_lt s silence_end) (s + 1) silence_end

-- one tick, with TCYC t
unfoldable pub clock_tick : ℕ → Clock → Clock
clock_tick t clock =
    choose (nat_le t ((clock.elapsed + 1) % 256))
    (record { elapsed = 0; silence = more_silence clock.silence; cycle = (clock.cycle + 1) % 256; heard = unheard; taken = 0 })
    (record { elapsed = (clock.elapsed + 1) % 256; silence = more_silence clock.silence; cycle = clock.cycle; heard = clock.heard; taken = clock.taken })

-- n ticks
unfoldable pub clock_ticks : ℕ → ℕ → Clock → Clock
clock_ticks t zero clock = clock
clock_ticks t (suc n) clock = clock_ticks t n (clock_tick t clock)

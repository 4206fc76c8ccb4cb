-- Register 26h on the bench: lists of calls with real bodies from power-up, and the ground that each comes to. Assumes nothing.
use Rattle.std.specs.Prelude.{[], ◌∷◌, ◌++◌, ◌≡◌, ℕ}
use Rattle.rules.specs.Registers.{ground_at, out_rep}
use Rattle.rules.specs.State.{in_run, in_fallback, reg}
use Rattle.rules.specs.declared.Agent.{Agent}
use Rattle.bench.specs.BusCalls.{module1, syncs, writes_to, after, silent}
use Rattle.bench.specs.Cases.{after_prelude, on_time}
use Rattle.bench.specs.Windows.{started, early}

-- in a mode, with this in 26h
abbrev pub Shows : ℕ → ℕ → Agent → Type 0
Shows mode g a = (a.mode ≡ mode) × (reg a ground_at ≡ g)

abbrev pub Grounds : Type 0
Grounds =
    -- at power-up, and in RUN for the first time
    Shows in_fallback 0 module1
    × Shows in_run 0 (started 16)
    -- t 16, n 5 and m 5, the last sync and the last output write in one millisecond: both silences end on the 80th tick
    × Shows in_fallback 1 (after (silent 80) (started 16))
    -- P10: syncs on time, no output write
    × Shows in_fallback 2 (after (on_time 4 0x05 ++ silent 10) (after_prelude 0x04 0x05))
    -- a sync with CYC 20h, where 12h is due
    × Shows in_fallback 3 (after (syncs 0x20 ∷ []) (started 16))
    -- AAh to 17h; and then a release and a sync, which lead to RUN and leave it
    × Shows in_fallback 4 (after (writes_to 0x11 1 out_rep (0xAA ∷ []) ∷ []) (started 16))
    × Shows in_run 4 (after (writes_to 0x11 1 out_rep (0xAA ∷ []) ∷ writes_to 0x11 2 out_rep (0x55 ∷ []) ∷ syncs 0x12 ∷ []) (started 16))
    -- a sync before its window, and none after it
    × Shows in_fallback 5 (after (early ++ silent 6) (started 16))

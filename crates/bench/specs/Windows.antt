-- The reception window on the bench: lists of calls with real bodies from power-up, and what they come to. Assumes nothing.
use Rattle.std.specs.Prelude.{List, [], ◌∷◌, ◌++◌, ◌≡◌, ℕ, ◌+◌, ◌-◌}
use Rattle.rules.specs.Calls.{Call, act}
use Rattle.rules.specs.Registers.{out_rep, tcyc, cnf_cyc, outputs_at}
use Rattle.rules.specs.State.{in_run, in_fallback, reg}
use Rattle.rules.specs.declared.Agent.{Agent}
use Rattle.bench.specs.BusCalls.{module1, assigns, syncs, writes_to, after, silent}

-- the SID is assigned; t, n = 5 and the release are written in a cycle with CYC 10h; the next sync, 11h, leads to RUN, and a
-- write sets the first output to ABh
abbrev pub start : ℕ → List Call
start t =
    assigns
    ∷ syncs 0x10
    ∷ writes_to 0x10 0 tcyc (t ∷ [])
    ∷ writes_to 0x10 1 cnf_cyc (0x05 ∷ [])
    ∷ writes_to 0x10 2 out_rep (0x55 ∷ [])
    ∷ syncs 0x11
    ∷ writes_to 0x11 0 outputs_at (0xAB ∷ [])
    ∷ []

abbrev pub started : ℕ → Agent
started t = after (start t) module1

-- the answer to the sync 12h, so many ticks after 11h
abbrev pub answer_after : (t ticks : ℕ) → ℕ
answer_after t ticks = (act (after (silent ticks) (started t)) (syncs 0x12)).answer

-- one tick before its window, and in its first tick, at the end of the cycle of 11h; in its last tick, and one later, in a cycle
-- of its own that is unheard
abbrev pub Edges : (t w : ℕ) → Type 0
Edges t w =
    (answer_after t (t - w - 1) ≡ 22) × (answer_after t (t - w) ≡ 0) × (answer_after t (t + w) ≡ 0) × (answer_after t (t + w + 1) ≡ 22)

-- for t = 7, 8, 15, 16 and 255; with t = 1, where w is t, it is accepted in the tick of 11h and in the next
abbrev pub AllEdges : Type 0
AllEdges = Edges 7 1 × Edges 8 1 × Edges 15 1 × Edges 16 2 × Edges 255 31 × (answer_after 1 0 ≡ 0) × (answer_after 1 1 ≡ 0)

-- ---- three lists, with t 16 and w 2

-- RUN with the output on, and fallback with it off
abbrev pub Runs : Agent → Type 0
Runs a = (a.mode ≡ in_run) × (reg a outputs_at ≡ 0xAB)

abbrev pub HasFallen : Agent → Type 0
HasFallen a = (a.mode ≡ in_fallback) × (reg a outputs_at ≡ 0x00)

-- the sync 12h comes at e = 10, too early
abbrev pub early : List Call
early = silent 10 ++ (syncs 0x12 ∷ [])

-- it comes again at e = 15 and is accepted: the cycle after it ends in RUN
abbrev pub Healed : Type 0
Healed =
    (answer_after 16 10 ≡ 22)
    × ((act (after (early ++ silent 5) (started 16)) (syncs 0x12)).answer ≡ 0)
    × Runs (after (early ++ (silent 5 ++ (syncs 0x12 ∷ silent 16))) (started 16))

-- it does not come again: fallback at the clock's end of the cycle
abbrev pub NotHealed : Type 0
NotHealed = Runs (after (early ++ silent 5) (started 16)) × HasFallen (after (early ++ silent 6) (started 16))

-- the sync 12h comes, as a late repeat may, at e = 3 of its own cycle, which is unheard: too late; fallback at the end of that cycle
abbrev pub late : List Call
late = silent 19 ++ (syncs 0x12 ∷ [])

abbrev pub TooLate : Type 0
TooLate = (answer_after 16 19 ≡ 22) × Runs (after (late ++ silent 12) (started 16)) × HasFallen (after (late ++ silent 13) (started 16))

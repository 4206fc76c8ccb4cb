-- Requests that skip numbers, on the bench: with real bodies, from RUN on. Assumes nothing.
use Rattle.std.specs.Prelude.{true, List, [], ◌∷◌, ◌≡◌, ℕ, ◌+◌, ◌≤◌, ◌<◌, leb, ltb}
use Rattle.base.specs.Choice.{choose}
use Rattle.frame_writing.specs.Writing.{frame_line}
use Rattle.frame_kinds.specs.declared.kinds.Frame.TheVariants.{SafeResponse}
use Rattle.rules.specs.Calls.{Call, act}
use Rattle.rules.specs.Fixed.{is_limit, lighting_limit}
use Rattle.rules.specs.Registers.{typ_at, statut, cpt_seq, outputs_at}
use Rattle.rules.specs.State.{reg}
use Rattle.rules.specs.declared.Agent.{Agent}
use Rattle.bench.specs.BusCalls.{own_sid, concentrator, asks_for, writes_to, after, answers}
use Rattle.bench.specs.Cases.{after_prelude_of, after_prelude, asked}

-- P14 at every distance, for either limit: the answer to the request at the distance d, after the first n of the cycle
abbrev pub AtDistance : Type 0
AtDistance =
    (limit : ℕ) → is_limit limit ≡ true → (n d : ℕ) → n ≤ limit → d < 256
    → (act (after (asked n 0) (after_prelude_of limit 0x04 0x05)) (asks_for 0x05 d 1 typ_at)).answer
    ≡ choose (ltb d n) 13 (choose (ltb (n + 3) d) 14 (choose (leb limit d) 15 0))

-- in RUN, no request taken yet
abbrev pub running : Agent
running = after_prelude 0x04 0x05

-- STATUT and CPT_SEQ
abbrev pub Counted : (status count : ℕ) → Agent → Type 0
Counted status count a = (reg a statut ≡ status) × (reg a cpt_seq ≡ count)

-- the first write is lost, the next three come, and then the first
abbrev pub lost : List Call
lost = writes_to 0x05 1 0x80 (0x01 ∷ []) ∷ writes_to 0x05 2 0x81 (0x02 ∷ []) ∷ writes_to 0x05 3 0x82 (0x03 ∷ []) ∷ writes_to 0x05 0 0x80 (0xFF ∷ []) ∷ []

-- each skips three but the last
abbrev pub sparse : List Call
sparse = asks_for 0x05 3 1 typ_at ∷ asks_for 0x05 7 1 typ_at ∷ asks_for 0x05 11 1 typ_at ∷ asks_for 0x05 15 1 typ_at ∷ asks_for 0x05 16 1 typ_at ∷ []

abbrev pub Skips : Type 0
Skips =
    (answers lost running ≡ 0 ∷ 0 ∷ 0 ∷ 13 ∷ [])
    × (reg (after lost running) outputs_at ≡ 0x01)
    × Counted 0x02 1 (after lost running)
    -- a read that skips two: its STAT shows bit 1, which its reply clears
    × ((act running (asks_for 0x05 2 1 typ_at)).line ≡ frame_line 0xF0 (SafeResponse concentrator own_sid 0x05 0xFE 0x70 1 typ_at 0x02) (0x82 ∷ []))
    × Counted 0x00 2 (after (asks_for 0x05 2 1 typ_at ∷ []) running)
    -- a write that skips three and is 16
    × (answers (writes_to 0x05 3 0xBF (0x01 ∷ 0x02 ∷ []) ∷ []) running ≡ 16 ∷ [])
    × Counted 0x02 3 (after (writes_to 0x05 3 0xBF (0x01 ∷ 0x02 ∷ []) ∷ []) running)
    -- the limit counts numbers and not requests: with limit 16 four are taken, and the next number is 15
    × (answers sparse (after_prelude_of lighting_limit 0x04 0x05) ≡ 0 ∷ 0 ∷ 0 ∷ 0 ∷ 15 ∷ [])
    -- CPT_SEQ stops at 255, and a write that skips and covers it overwrites the count
    × Counted 0x02 255 (after (writes_to 0x05 0 cpt_seq (0xFE ∷ []) ∷ writes_to 0x05 4 0x80 (0x01 ∷ []) ∷ []) running)
    × Counted 0x02 0xFE (after (writes_to 0x05 3 cpt_seq (0xFE ∷ []) ∷ []) running)

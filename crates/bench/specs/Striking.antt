-- Refusals that cannot be struck: for each number, two lists of calls that differ by one call alone, refused with it, and what the
-- call after it leaves in each. With real bodies, from power-up. Assumes nothing.
use Rattle.std.specs.Prelude.{List, [], ◌∷◌, ◌≡◌, ℕ}
use Rattle.rules.specs.Calls.{least_room, Call, tick, frame, act}
use Rattle.rules.specs.Registers.{typ_at, statut, cpt_seq, cpt_for, ground_at, outputs_at}
use Rattle.rules.specs.State.{reg}
use Rattle.rules.specs.declared.Agent.{Agent}
use Rattle.bench.specs.BusCalls.{module1, syncs, asks_for, writes_to, after, inputs}
use Rattle.bench.specs.Skips.{running}

-- on the agent a the call x is refused with a number. With it, register i has one value after the call y; without it, the other
abbrev pub Noticed : (number : ℕ) → Agent → (x y : Call) → (i with_it without-it : ℕ) → Type 0
Noticed number a x y i with_it without-it =
    ((act a x).answer ≡ number) × (reg (after (x ∷ y ∷ []) a) i ≡ with_it) × (reg (after (y ∷ []) a) i ≡ without-it)

abbrev pub later : Call
later = tick inputs

-- ---- bodies that are no frames for the module, on port 1
abbrev pub line_gives : List ℕ → Call
line_gives body = frame 1 body least_room

-- nothing; an escape before 31h; four bytes before stuffing; a wrong FCS
abbrev pub empty : Call
empty = line_gives []

abbrev pub bad_escape : Call
bad_escape = line_gives (0x8F ∷ 0x7D ∷ 0x31 ∷ 0x00 ∷ 0x00 ∷ 0x00 ∷ 0x00 ∷ [])

abbrev pub brief : Call
brief = line_gives (0x8F ∷ 0x7D ∷ 0x5E ∷ 0x7D ∷ 0x5E ∷ 0x7D ∷ 0x5E ∷ [])

abbrev pub damaged : Call
damaged = line_gives (0x8F ∷ 0x00 ∷ 0x00 ∷ 0x00 ∷ 0x00 ∷ 0x00 ∷ 0x00 ∷ [])

-- a non-safe read of one byte at 10h, TYP 08h
abbrev pub non_safe : Call
non_safe = line_gives (0x90 ∷ 0x08 ∷ 0xF1 ∷ 0x02 ∷ 0x01 ∷ 0x10 ∷ 0x64 ∷ 0x00 ∷ [])

-- ---- the pairs

-- at power-up: STATUT with bit 5, and CPT_FOR
abbrev pub AtPowerUp : Type 0
AtPowerUp =
    Noticed 1 module1 empty later statut 0xA0 0x80
    × Noticed 2 module1 bad_escape later statut 0xA0 0x80
    × Noticed 3 module1 brief later statut 0xA0 0x80
    × Noticed 4 module1 damaged later statut 0xA0 0x80
    × Noticed 7 module1 non_safe later cpt_for 0x01 0x00

-- in RUN, the sync with CYC 05h accepted in this millisecond
abbrev pub InRun : Type 0
InRun =
    -- a sync with CYC 20h, where 06h is due: the ground in 26h; a request with CYC 04h: CPT_SEQ
    Noticed 12 running (syncs 0x20) later ground_at 0x03 0x00
    × Noticed 12 running (asks_for 0x04 0 1 typ_at) later cpt_seq 0x01 0x00
    -- the fifth number, where the first is due
    × Noticed 14 running (asks_for 0x05 4 1 typ_at) later cpt_seq 0x01 0x00
    -- two bytes to BFh, and then a write of 55h to the first output with the same number: 13, or taken
    × Noticed 16 running (writes_to 0x05 0 0xBF (0x01 ∷ 0x02 ∷ [])) (writes_to 0x05 0 outputs_at (0x55 ∷ [])) outputs_at 0x00 0x55
    -- the next sync, before its window: STATUT with bit 1
    × Noticed 22 running (syncs 0x06) later statut 0x02 0x00

abbrev pub CannotBeStruck : Type 0
CannotBeStruck = AtPowerUp × InRun

-- What a refusal and a skip mark and count: STATUT bits, counters that stop at 255, and the mark of 22. Assumes nothing.
use Rattle.std.specs.Prelude.{ℕ, zero, suc, ◌+◌, ltb}
use Rattle.std.specs.Int.Bits.{bit_or}
use Rattle.base.specs.Choice.{choose}
use Rattle.rules.specs.Registers.{statut, cpt_seq, cpt_for}
use Rattle.rules.specs.State.{is_marked, reg, store, with_mark}
use Rattle.rules.specs.declared.Agent.{Agent}

abbrev pub counter : ℕ → ℕ
counter x = choose (ltb x 255) (x + 1) 255

-- n times one more
abbrev pub counter_by : ℕ → ℕ → ℕ
counter_by zero x = x
counter_by (suc n) x = counter (counter_by n x)

-- 1 to 4: bit 5
unfoldable pub line_marked : Agent → Agent
line_marked a = store statut (bit_or (reg a statut) 0x20) a

-- 7: bit 5, and CPT_FOR (24h) + 1
unfoldable pub format_marked : Agent → Agent
format_marked a = store cpt_for (counter (reg a cpt_for)) (line_marked a)

-- 12 and 14: bit 1, and CPT_SEQ (20h) + 1
unfoldable pub sequence_marked : Agent → Agent
sequence_marked a = store cpt_seq (counter (reg a cpt_seq)) (store statut (bit_or (reg a statut) 0x02) a)

-- n numbers skipped: each adds 1 to CPT_SEQ, and any sets bit 1
unfoldable pub skip_marked : ℕ → Agent → Agent
skip_marked zero a = a
skip_marked (suc n) a = store cpt_seq (counter_by (suc n) (reg a cpt_seq)) (store statut (bit_or (reg a statut) 0x02) a)

-- 22: bit 1, and the mark
unfoldable pub window_marked : Agent → Agent
window_marked a = with_mark is_marked (store statut (bit_or (reg a statut) 0x02) a)

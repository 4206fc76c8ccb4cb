-- Entering fallback, and entering RUN. Assumes nothing.
use Rattle.std.specs.Prelude.{ℕ, replicate}
use Rattle.std.specs.Int.Bits.{bit_and, bit_or}
use Rattle.base.specs.Choice.{choose}
use Rattle.rules.specs.Registers.{out_rep, statut, ground_at, outputs_at, image}
use Rattle.rules.specs.State.{in_run, in_fallback, unmarked, running, reg, with_mode, with_mark, store, store_all}
use Rattle.rules.specs.declared.Agent.{Agent}

-- OUT_REP: released, and not released
abbrev pub released : ℕ
released = 0x55

abbrev pub withheld : ℕ
withheld = 0xAA

-- 26h: the ground if this is a passage from RUN, else as it was
abbrev pub ground_after : ℕ → Agent → ℕ
ground_after cause a = choose (running a) cause (reg a ground_at)

-- sets 80h to BFh to 00h, OUT_REP to AAh, q to 0 and STATUT bit 7, and clears the mark; from RUN, 26h shows the ground; c, heard,
-- e, s, k and the sources stay
unfoldable pub enter_fallback : ℕ → Agent → Agent
enter_fallback cause a =
    with_mark unmarked
    (with_mode in_fallback 0
    (store_all outputs_at (replicate image 0)
    (store ground_at (ground_after cause a) (store out_rep withheld (store statut (bit_or (reg a statut) 0x80) a)))))

-- the mode becomes RUN, STATUT bit 7 is cleared, q = 0
unfoldable pub enter_run : Agent → Agent
enter_run a = with_mode in_run 0 (store statut (bit_and (reg a statut) 0x7F) a)

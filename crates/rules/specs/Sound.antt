-- When a state is sound (document 01, "Who causes which number"), part by part. Assumes nothing.
use Rattle.std.specs.Prelude.{Bool, true, not, ◌&&◌, ◌||◌, List, ℕ, zero, suc, ◌+◌, ◌*◌, eqb, leb, ltb, get_or}
use Rattle.std.specs.Bool.{beq}
use Rattle.std.specs.Int.Bits.{bit_and}
use Rattle.rules.specs.Assignments.{assignable}
use Rattle.rules.specs.Fallback.{released, withheld}
use Rattle.rules.specs.Fixed.{limit_of, fits}
use Rattle.rules.specs.Grounds.{is_ground}
use Rattle.rules.specs.Registers.{typ_at, tid_at, out_rep, statut, ground_at, outputs_at, image}
use Rattle.rules.specs.Sources.{distinct, below24, is_recorded, sid_of}
use Rattle.rules.specs.State.{in_run, in_fallback, is_heard, unheard, is_marked, unmarked, nobody, reg, t_of, n_of, m_of}
use Rattle.rules.specs.declared.Agent.{Agent}

-- t, n, m are not 0, OUT_REP is 55h or AAh, TID is 8Fh or assignable, TYP is 82h, 26h is 0 to 5; what is fixed at power-up fits
unfoldable pub settings_sound : Agent → Bool
settings_sound a =
    not (eqb (t_of a) 0) && not (eqb (n_of a) 0) && not (eqb (m_of a) 0) && (eqb (reg a out_rep) released || eqb (reg a out_rep) withheld)
    && (eqb (reg a tid_at) 0x8F || assignable (reg a tid_at)) && eqb (reg a typ_at) 0x82 && is_ground (reg a ground_at) && fits a.fixed

-- at most 8 are recorded, all distinct, each below FFFFFFh; nobody is recorded exactly when the SID is FFFFFFh
unfoldable pub sources_sound : Agent → Bool
sources_sound a =
    leb a.count 8 && distinct a.known a.count && below24 a.known a.count && beq (eqb a.count 0) (eqb (sid_of a) nobody)

-- k is at most the limit, e at most 254; the last source is recorded, or there is none and the cycle is unheard; heard and the
-- mark each have one of their two values
unfoldable pub counters_sound : Agent → Bool
counters_sound a =
    leb a.taken (limit_of a) && leb a.elapsed 254 && (is_recorded a a.last || (eqb a.last nobody && eqb a.heard unheard))
    && (eqb a.heard is_heard || eqb a.heard unheard) && (eqb a.mark is_marked || eqb a.mark unmarked)

-- the first n outputs are 0
unfoldable pub outputs_zero : List ℕ → ℕ → Bool
outputs_zero r zero = true
outputs_zero r (suc n) = outputs_zero r n && eqb (get_or r (outputs_at + n) 0) 0

-- in RUN: bits 7 and 6 of STATUT are 0, OUT_REP is 55h, s is below n × t, q below m × t, and there is a last source
unfoldable pub run_sound : Agent → Bool
run_sound a =
    eqb a.mode in_run && eqb (bit_and (reg a statut) 0xC0) 0x00 && eqb (reg a out_rep) released && ltb a.silence (n_of a * t_of a)
    && ltb a.idle (m_of a * t_of a) && not (eqb a.last nobody)

-- in fallback: bit 7 of STATUT is 1 and bit 6 is 0; outputs and q are 0
unfoldable pub fallback_sound : Agent → Bool
fallback_sound a =
    eqb a.mode in_fallback && eqb (bit_and (reg a statut) 0xC0) 0x80 && eqb a.idle 0 && outputs_zero a.regs image

unfoldable pub sound : Agent → Bool
sound a = settings_sound a && sources_sound a && counters_sound a && (run_sound a || fallback_sound a)

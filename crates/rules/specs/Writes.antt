-- Write: which spans, in which mode, with which values, and with what effect. Assumes nothing.
use Rattle.std.specs.Prelude.{Bool, true, false, not, ◌&&◌, ◌||◌, List, ℕ, ◌+◌, eqb, leb, length, get_or}
use Rattle.std.proofs.lemmas.List.Edits.{sets}
use Rattle.base.specs.Choice.{choose, within}
use Rattle.rules.specs.Answers.{accepted, outside_rules}
use Rattle.rules.specs.Fallback.{released, withheld, enter_fallback}
use Rattle.rules.specs.Grounds.{by_order}
use Rattle.rules.specs.Registers.{cnf_rep, cnf_cyc}
use Rattle.rules.specs.Replies.{Deed, does}
use Rattle.rules.specs.State.{running, with_idle, store_all}
use Rattle.rules.specs.declared.Agent.{Agent}
use Rattle.rules.specs.declared.Span.{Span}
use Rattle.rules.specs.declared.Span.TheVariants.{Release, CycleTime, Limits, Counters, Config, Outputs, Outside}

-- the span in which a register lies: 17h; 18h; 1Ah to 1Dh; 1Eh to 24h; 25h; 80h to BFh
unfoldable pub span_at : ℕ → Span
span_at add =
    choose (eqb add 0x17) Release
    (choose (eqb add 0x18) CycleTime
    (choose (within 0x1A 0x1D add) Limits
    (choose (within 0x1E 0x24 add) Counters
    (choose (eqb add 0x25) Config
    (choose (within 0x80 0xBF add) Outputs
    Outside)))))

-- the register after the span's last
abbrev pub span_end : Span → ℕ
span_end Release = 0x18
span_end CycleTime = 0x19
span_end Limits = 0x1E
span_end Counters = 0x25
span_end Config = 0x26
span_end Outputs = 0xC0
span_end Outside = 0x00

-- at least one byte, wholly in one span
unfoldable pub span_of : ℕ → ℕ → Span
span_of add n = choose (leb 1 n && leb (add + n) (span_end (span_at add))) (span_at add) Outside

-- 17h must become 55h or AAh, 18h not 0; of 1Ah to 1Dh the first two must not become 0; 18h and 1Ah to 1Dh only in
-- fallback, 80h to BFh only in RUN
abbrev pub allowed : Span → Agent → ℕ → List ℕ → Bool
allowed Release a add xs = eqb (get_or xs 0 0) released || eqb (get_or xs 0 0) withheld
allowed CycleTime a add xs = not (running a) && not (eqb (get_or xs 0 0) 0)
allowed Limits a add xs =
    not (running a) && not (eqb (get_or (sets a.regs add xs) cnf_rep 0) 0) && not (eqb (get_or (sets a.regs add xs) cnf_cyc 0) 0)
allowed Counters a add xs = true
allowed Config a add xs = true
allowed Outputs a add xs = running a
allowed Outside a add xs = false

-- AAh to 17h means fallback; an output write sets q to 0
abbrev pub written : Span → Agent → ℕ → List ℕ → Agent
written Release a add xs = choose (eqb (get_or xs 0 0) withheld) (enter_fallback by_order a) (store_all add xs a)
written CycleTime a add xs = store_all add xs a
written Limits a add xs = store_all add xs a
written Counters a add xs = store_all add xs a
written Config a add xs = store_all add xs a
written Outputs a add xs = with_idle 0 (store_all add xs a)
written Outside a add xs = a

unfoldable pub on_write : Agent → ℕ → List ℕ → Deed
on_write a add xs =
    choose (allowed (span_of add (length xs)) a add xs)
    (does accepted (written (span_of add (length xs)) a add xs))
    (does outside_rules a)

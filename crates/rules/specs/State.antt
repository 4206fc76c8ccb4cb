-- The state apart from its registers, and the state with some fields changed (`with_regs` and so on). Only these and
-- power-up name every field. Assumes nothing.
use Rattle.std.specs.Prelude.{Bool, List, [], ◌∷◌, ℕ, eqb, get_or}
use Rattle.std.proofs.lemmas.List.Edits.{sets}
use Rattle.rules.specs.Registers.{tcyc, cnf_rep, cnf_cyc}
use Rattle.rules.specs.declared.Agent.{Agent}

-- the two modes, and the two values of heard
abbrev pub in_run : ℕ
in_run = 1

abbrev pub in_fallback : ℕ
in_fallback = 0

abbrev pub is_heard : ℕ
is_heard = 1

abbrev pub unheard : ℕ
unheard = 0

-- the two values of the mark
abbrev pub is_marked : ℕ
is_marked = 1

abbrev pub unmarked : ℕ
unmarked = 0

-- no source, and no SID
abbrev pub nobody : ℕ
nobody = 0xFFFFFF

abbrev pub running : Agent → Bool
running a = eqb a.mode in_run

-- a register
abbrev pub reg : Agent → ℕ → ℕ
reg a i = get_or a.regs i 0

-- t = TCYC, n = CNF_CYC, m = CNF_REP
abbrev pub t_of : Agent → ℕ
t_of a = reg a tcyc

abbrev pub n_of : Agent → ℕ
n_of a = reg a cnf_cyc

abbrev pub m_of : Agent → ℕ
m_of a = reg a cnf_rep

-- registers
abbrev pub with_regs : List ℕ → Agent → Agent
with_regs r a =
    record { regs = r; known = a.known; last = a.last; silence = a.silence; idle = a.idle; cycle = a.cycle; elapsed = a.elapsed; taken = a.taken; mode = a.mode; heard = a.heard; mark = a.mark; count = a.count; fixed = a.fixed }

-- mode and q
abbrev pub with_mode : ℕ → ℕ → Agent → Agent
with_mode m q a =
    record { regs = a.regs; known = a.known; last = a.last; silence = a.silence; idle = q; cycle = a.cycle; elapsed = a.elapsed; taken = a.taken; mode = m; heard = a.heard; mark = a.mark; count = a.count; fixed = a.fixed }

-- q
abbrev pub with_idle : ℕ → Agent → Agent
with_idle q a =
    record { regs = a.regs; known = a.known; last = a.last; silence = a.silence; idle = q; cycle = a.cycle; elapsed = a.elapsed; taken = a.taken; mode = a.mode; heard = a.heard; mark = a.mark; count = a.count; fixed = a.fixed }

-- e, s and q
abbrev pub with_clock : ℕ → ℕ → ℕ → Agent → Agent
with_clock e s q a =
    record { regs = a.regs; known = a.known; last = a.last; silence = s; idle = q; cycle = a.cycle; elapsed = e; taken = a.taken; mode = a.mode; heard = a.heard; mark = a.mark; count = a.count; fixed = a.fixed }

-- c, heard, e and k
abbrev pub with_cycle : ℕ → ℕ → ℕ → ℕ → Agent → Agent
with_cycle c h e k a =
    record { regs = a.regs; known = a.known; last = a.last; silence = a.silence; idle = a.idle; cycle = c; elapsed = e; taken = k; mode = a.mode; heard = h; mark = a.mark; count = a.count; fixed = a.fixed }

-- the source of the last accepted sync, and s
abbrev pub with_sync : ℕ → ℕ → Agent → Agent
with_sync x s a =
    record { regs = a.regs; known = a.known; last = x; silence = s; idle = a.idle; cycle = a.cycle; elapsed = a.elapsed; taken = a.taken; mode = a.mode; heard = a.heard; mark = a.mark; count = a.count; fixed = a.fixed }

-- k
abbrev pub with_taken : ℕ → Agent → Agent
with_taken k a =
    record { regs = a.regs; known = a.known; last = a.last; silence = a.silence; idle = a.idle; cycle = a.cycle; elapsed = a.elapsed; taken = k; mode = a.mode; heard = a.heard; mark = a.mark; count = a.count; fixed = a.fixed }

-- the mark
abbrev pub with_mark : ℕ → Agent → Agent
with_mark x a =
    record { regs = a.regs; known = a.known; last = a.last; silence = a.silence; idle = a.idle; cycle = a.cycle; elapsed = a.elapsed; taken = a.taken; mode = a.mode; heard = a.heard; mark = x; count = a.count; fixed = a.fixed }

-- the recorded concentrators
abbrev pub with_known : List ℕ → ℕ → Agent → Agent
with_known l n a =
    record { regs = a.regs; known = l; last = a.last; silence = a.silence; idle = a.idle; cycle = a.cycle; elapsed = a.elapsed; taken = a.taken; mode = a.mode; heard = a.heard; mark = a.mark; count = n; fixed = a.fixed }

-- one register stored, and several starting at i
abbrev pub store : ℕ → ℕ → Agent → Agent
store i x a = with_regs (sets a.regs i (x ∷ [])) a

abbrev pub store_all : ℕ → List ℕ → Agent → Agent
store_all i xs a = with_regs (sets a.regs i xs) a

-- The history of a list of calls from power-up: each call, its answer, what the two amount to, and what may be seen of
-- the agent before and after: mode, outputs, t, n, m and the ground in 26h. The agent's counters are not part of it. Assumes nothing.
use Rattle.std.specs.Prelude.{List, [], ◌∷◌, ℕ, ◌+◌, get_or}
use Rattle.rules.specs.Calls.{Call, act}
use Rattle.rules.specs.Replies.{Outcome}
use Rattle.rules.specs.declared.Agent.{Agent}
use Rattle.demand3.specs.Events.{Event, event_of}
use Rattle.demand3.specs.Numbers.{tcyc, cnf_rep, cnf_cyc, ground_at, outputs_at}

infixl 20 ◌▸◌
-- outputs are counted from 0 to 63
pub record Seen : Type 0 where
  pub mode : ℕ
  pub out : ℕ → ℕ
  pub t : ℕ
  pub n : ℕ
  pub m : ℕ
  pub ground : ℕ

pub record Entry : Type 0 where
  pub call : Call
  pub answer : ℕ
  pub event : Event
  pub before : Seen
  pub after : Seen

-- the calls since power-up, the latest on the right
pub data History : Type 0 where
  power_on : History
  ◌▸◌ : History → Entry → History

-- what is seen, from the mode and the registers
abbrev pub seen_of : ℕ → List ℕ → Seen
seen_of mode regs = record {
  mode = mode;
  out = λ i. get_or regs (outputs_at + i) 0;
  t = get_or regs tcyc 0;
  n = get_or regs cnf_cyc 0;
  m = get_or regs cnf_rep 0;
  ground = get_or regs ground_at 0;
}

abbrev pub seen : Agent → Seen
seen a = seen_of a.mode a.regs

-- a call, its answer and what was seen before and after: the event is read off the call and the answer alone
abbrev pub call_entry : Call → ℕ → Seen → Seen → Entry
call_entry call answer before after = record { call = call; answer = answer; event = event_of call answer; before = before; after = after }

-- a call on the agent a, its answer, and the agent b that it left
abbrev pub entry_of : Agent → Call → ℕ → Agent → Entry
entry_of a call answer b = call_entry call answer (seen a) (seen b)

abbrev pub entry : Agent → Call → Outcome → Entry
entry a call o = entry_of a call o.answer o.agent

-- each call is made on the agent that the one before left
abbrev pub history : Agent → History → List Call → History
history a h [] = h
history a h (x ∷ xs) = history (act a x).agent (h ▸ entry a x (act a x)) xs

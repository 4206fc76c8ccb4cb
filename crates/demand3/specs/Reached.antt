-- Demand 3, and what 26h and the terminals show, as a clause of a contract: what one call adds to every history from power-up that
-- ended in the agent passed to it. Power-up begins a history, each call continues it, and all of it holds at each step. Assumes nothing.
use Rattle.std.specs.Prelude.{true, false, List, [], ◌∷◌, ◌≡◌, ℕ}
use Rattle.rules.specs.Calls.{Call, act}
use Rattle.rules.specs.PowerUp.{power_up}
use Rattle.rules.specs.Replies.{outcome}
use Rattle.rules.specs.declared.Agent.{Agent}
use Rattle.rules.specs.declared.Fixed.{Fixed}
use Rattle.demand3.specs.Claim.{BytesCalls, Holds}
use Rattle.demand3.specs.Grounds.{Grounded}
use Rattle.demand3.specs.History.{History, power_on, ◌▸◌, entry_of, history}
use Rattle.demand3.specs.Numbers.{is_limit, can_be_struck, unsound}
use Rattle.demand3.specs.Sharper.{Sharper}
use Rattle.demand3.specs.Terminals.{Terminals}

-- the agent after a list of calls
abbrev pub agent_after : Agent → List Call → Agent
agent_after a [] = a
agent_after a (x ∷ xs) = agent_after (act a x).agent xs

-- h is a history from power-up, and a the agent at its end. Whoever reads a contract need not look inside: power-up
-- gives it for the empty history, each call passes it on, and demand 3 comes with it
pub record Reached (h : History) (a : Agent) : Type 0 where
  pub mac : ℕ
  pub iid : ℕ
  pub ver : ℕ
  pub fixed : Fixed
  pub fit : is_limit fixed.limit ≡ true
  pub calls : List Call
  pub bytes : BytesCalls calls
  pub is_history : history (power_up mac iid ver fixed) power_on calls ≡ h
  pub is_agent : agent_after (power_up mac iid ver fixed) calls ≡ a

-- what power-up leaves: with a limit of requests that is 16 or 64 it begins a history; with any other, every call answers
-- 19 and leaves the agent as it is
pub record Begins (fixed : Fixed) (a : Agent) : Type 0 where
  pub reached : is_limit fixed.limit ≡ true → Reached power_on a
  pub unfit : is_limit fixed.limit ≡ false → (call : Call) → act a call ≡ outcome unsound a

-- the history with one more call, made on the agent a, with this answer, leaving the agent b: it is a history from
-- power-up too, and demand 3, the sharper statements and those of register 26h and the terminals hold of it. A call that can be
-- struck leaves the agent as it was
pub record Next (h : History) (a : Agent) (call : Call) (answer : ℕ) (b : Agent) : Type 0 where
  pub reached : Reached (h ▸ entry_of a call answer b) b
  pub holds : Holds (h ▸ entry_of a call answer b)
  pub sharper : Sharper (h ▸ entry_of a call answer b)
  pub grounded : Grounded (h ▸ entry_of a call answer b)
  pub terminals : Terminals (h ▸ entry_of a call answer b)
  pub struck : can_be_struck answer ≡ true → b ≡ a

-- this holds for every history that ended in a
abbrev pub Continues : Agent → Call → ℕ → Agent → Type 0
Continues a call answer b = (h : History) → Reached h a → Next h a call answer b

-- The log that a run of the code writes, the history read off the log, and the promise of a run over a whole list of
-- calls. Assumes nothing.
use Rattle.std.specs.Prelude.{true, List, [], ◌∷◌, ◌≡◌, ℕ, ◌+◌, ◌*◌, ◌≤◌, length, get_or, take, drop}
use Rattle.rules.specs.Calls.{Call}
use Rattle.rules.specs.declared.Agent.{Agent}
use Rattle.demand3.specs.Claim.{Holds}
use Rattle.demand3.specs.Grounds.{Grounded}
use Rattle.demand3.specs.History.{History, power_on, ◌▸◌, Seen, seen_of, call_entry}
use Rattle.demand3.specs.Numbers.{is_limit}
use Rattle.demand3.specs.Reached.{Reached}
use Rattle.demand3.specs.Sharper.{Sharper}
use Rattle.demand3.specs.Terminals.{Terminals}
use Rattle.runs.specs.CallBytes.{list_bytes, AllMakable}

-- a record at power-up and after each call: the answer (0 at power-up), the mode and the 256 registers
abbrev pub record_of : ℕ → Agent → List ℕ
record_of answer a = answer ∷ a.mode ∷ a.regs

abbrev pub record_size : ℕ
record_size = 258

-- what may be seen of the agent, by the record at the start of l
abbrev pub seen_in : List ℕ → Seen
seen_in l = seen_of (get_or l 1 0) (take 256 (drop 2 l))

-- the history of a list of calls by the log, which starts with the record before the first call
abbrev pub logged : History → List Call → List ℕ → History
logged h [] l = h
logged h (x ∷ xs) l =
    logged (h ▸ call_entry x (get_or l record_size 0) (seen_in l) (seen_in (drop record_size l))) xs (drop record_size l)

-- a run of the code over the whole list from power-up: demand 3, the sharper statements and those of register 26h and of the
-- terminals hold of the history that it wrote down, and the agent that it returned is the one at its end
pub record Ran (calls : List Call) (a : Agent) (log : List ℕ) : Type 0 where
  pub holds : Holds (logged power_on calls log)
  pub sharper : Sharper (logged power_on calls log)
  pub grounded : Grounded (logged power_on calls log)
  pub terminals : Terminals (logged power_on calls log)
  pub reached : Reached (logged power_on calls log) a

-- this holds for a limit of requests that is 16 or 64 and every list of calls that the bytes s stand for, with a reply buffer
-- and a log that are long enough
abbrev pub RunsAny : (limit : ℕ) (s : List ℕ) (room places : ℕ) (a : Agent) (log : List ℕ) → Type 0
RunsAny limit s room places a log =
    is_limit limit ≡ true → (calls : List Call) → s ≡ list_bytes calls → AllMakable room calls → record_size + record_size * length calls ≤ places → Ran calls a log

-- Calls that can be struck from a list: those refused with 6, 9, 10, 11 or 13. Assumes nothing.
use Rattle.std.specs.Prelude.{Bool, true, false, List, [], ◌∷◌, ◌++◌, ◌≡◌, ℕ}
use Rattle.rules.specs.Calls.{Call, act}
use Rattle.rules.specs.Replies.{Outcome}
use Rattle.rules.specs.declared.Agent.{Agent}
use Rattle.demand3.specs.Numbers.{can_be_struck}
use Rattle.demand3.specs.Reached.{agent_after}

-- what each call of a list does, made on the agent that the one before left: its answer, the bytes that it sends, none if it sends
-- nothing, and the whole agent that it leaves, registers included
abbrev pub outcomes : Agent → List Call → List Outcome
outcomes a [] = []
outcomes a (x ∷ xs) = act a x ∷ outcomes (act a x).agent xs

-- a choice among the places of a list, true for those that are struck; places past the end of the choice are kept. The list
-- without them
abbrev pub without : {A : Type 0} → List Bool → List A → List A
without [] xs = xs
without (b ∷ choice) [] = []
without (true ∷ choice) (x ∷ xs) = without choice xs
without (false ∷ choice) (x ∷ xs) = x ∷ without choice xs

-- every call that is chosen was refused with such a number, in the list as it stands
abbrev pub Chosen : (ℕ → Bool) → List Bool → List Outcome → Type 0
Chosen is [] os = Unit {0}
Chosen is (b ∷ choice) [] = Unit {0}
Chosen is (true ∷ choice) (o ∷ os) = (is o.answer ≡ true) × Chosen is choice os
Chosen is (false ∷ choice) (o ∷ os) = Chosen is choice os

-- all that is sent, call after call
abbrev pub all_sent : List Outcome → List ℕ
all_sent [] = []
all_sent (o ∷ os) = o.line ++ all_sent os

-- striking is not noticed: every call that is left does what it did, all that is sent is the same, and so is the agent at the end
pub record Unnoticed (a : Agent) (calls : List Call) (choice : List Bool) : Type 0 where
  pub others : outcomes a (without choice calls) ≡ without choice (outcomes a calls)
  pub line : all_sent (outcomes a (without choice calls)) ≡ all_sent (outcomes a calls)
  pub end : agent_after a (without choice calls) ≡ agent_after a calls

-- from any agent, so from power-up too: for every list of calls and every choice among those that are answered so
abbrev pub StruckBy : (ℕ → Bool) → Type 0
StruckBy is = (a : Agent) (calls : List Call) (choice : List Bool) → Chosen is choice (outcomes a calls) → Unnoticed a calls choice

-- 6, 9, 10, 11 and 13
abbrev pub Striking : Type 0
Striking = StruckBy can_be_struck

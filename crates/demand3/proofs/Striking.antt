-- Calls that can be struck: from one law, that a call answered so leaves the whole agent as it was and sends nothing, by one
-- induction over the list and the choice. Assumes nothing.
use mathlib.Core.Bool.{Bool, true, false, ◌||◌}
use mathlib.Core.List.{List, [], ◌∷◌, ◌++◌}
use mathlib.Core.Path.{◌≡◌, refl, sym, ap, ◌∙◌, subst}
use Prim.Native.Nat.{ℕ}
use Rattle.base.proofs.Choosing.{or_cases}
use Rattle.rules.specs.Calls.{Call, act}
use Rattle.rules.specs.Refusals.{leaves_too}
use Rattle.rules.specs.Replies.{Outcome}
use Rattle.rules.specs.declared.Agent.{Agent}
use Rattle.rules.proofs.Refused.{untouched, untouched_too}
use Rattle.demand3.specs.Numbers.{can_be_struck}
use Rattle.demand3.specs.Reached.{agent_after}
use Rattle.demand3.specs.Striking.{outcomes, without, all_sent, Unnoticed, StruckBy, Striking}
use Rattle.demand3.proofs.SameNumbers.{same_struck}

-- the one law: a call answered with such a number leaves the whole agent as it was and sends nothing
abbrev LeavesNoTrace : (ℕ → Bool) → Type 0
LeavesNoTrace is = (a : Agent) (call : Call) → is (act a call).answer ≡ true → ((act a call).agent ≡ a) × ((act a call).line ≡ [])

module _ (is : ℕ → Bool) (law : LeavesNoTrace is) where
  -- one call struck: what follows finds the agent that the call found
  struck_first : (a : Agent) (x : Call) (xs : List Call) (choice : List Bool) → is (act a x).answer ≡ true
      → Unnoticed (act a x).agent xs choice → Unnoticed a (x ∷ xs) (true ∷ choice)
  struck_first a x xs choice s u =
      let e : (act a x).agent ≡ a = (law a x s).0 in
      record {
        others = subst (λ (b : Agent). outcomes b (without choice xs) ≡ without choice (outcomes (act a x).agent xs)) e u.others;
        line = subst (λ (b : Agent). all_sent (outcomes b (without choice xs)) ≡ (act a x).line ++ all_sent (outcomes (act a x).agent xs)) e
            (u.line ∙ ap (λ (l : List ℕ). l ++ all_sent (outcomes (act a x).agent xs)) (sym (law a x s).1));
        end = subst (λ (b : Agent). agent_after b (without choice xs) ≡ agent_after (act a x).agent xs) e u.end;
      }

  -- every choice
  pub struck_by : StruckBy is
  struck_by a xs [] c = record { others = refl; line = refl; end = refl }
  struck_by a [] (b ∷ choice) c = record { others = refl; line = refl; end = refl }
  struck_by a (x ∷ xs) (true ∷ choice) c = struck_first a x xs choice c.0 (struck_by (act a x).agent xs choice c.1)
  struck_by a (x ∷ xs) (false ∷ choice) c =
      let u = struck_by (act a x).agent xs choice c in
      record {
        others = ap (λ (os : List Outcome). act a x ∷ os) u.others;
        line = ap (λ (l : List ℕ). (act a x).line ++ l) u.line;
        end = u.end;
      }

-- 6, 9, 10, 11 and 13
pub leaves : LeavesNoTrace can_be_struck
leaves a call s = untouched a call (sym (same_struck (act a call).answer) ∙ s)

-- request 14: striking them changes no later answer, reply or register
pub striking : Striking
striking = struck_by can_be_struck leaves

-- and so it is with 5, 8, 15 and 17 to 21, struck together with these
pub struck_too : StruckBy (λ n. can_be_struck n || leaves_too n)
struck_too =
    struck_by (λ n. can_be_struck n || leaves_too n)
    (λ a call s. or_cases (can_be_struck (act a call).answer) (leaves_too (act a call).answer) s (leaves a call) (untouched_too a call))

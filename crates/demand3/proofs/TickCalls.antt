-- Why a tick is a tick call answered 0. A host that passes 63 inputs in every call, or any number but 64: no call ticks, and a
-- module in RUN stays there. If every tick call counted, the claim would be false of it. Assumes nothing.
use mathlib.Core.List.{List}
use mathlib.Core.Path.{◌≡◌, refl, ap, ◌∙◌}
use Prim.Native.Nat.{ℕ, zero, suc, ◌*◌, ◌≤◌}
use native.Mathlib.Omega.{arith}
use lib.ListN.{length, replicate}
use Rattle.rules.specs.Calls.{tick, act}
use Rattle.rules.specs.Registers.{image}
use Rattle.rules.specs.Replies.{Outcome}
use Rattle.rules.specs.declared.Agent.{Agent}
use Rattle.rules.proofs.Cases.{CallCase, unsoundly, hosts, ticks, call_case}
use Rattle.demand3.specs.Claim.{now, Holds}
use Rattle.demand3.specs.Events.{a_tick}
use Rattle.demand3.specs.History.{History, ◌▸◌, Entry, seen}
use Rattle.demand3.specs.Numbers.{in_run}
use Rattle.demand3.specs.Reached.{agent_after}
use Rattle.demand3.specs.Words.{silence}

module _ (a : Agent) (xs : List ℕ) (other : length xs ≡ image → ⊥) where
  -- the call leaves the agent as it is, and so do any number of such calls
  by_case : {o : Outcome} → CallCase a (tick xs) o → o.agent ≡ a
  by_case (unsoundly e) = refl
  by_case (hosts n h) = refl
  by_case (ticks e) = absurd (other e)

  pub left : (act a (tick xs)).agent ≡ a
  left = by_case (call_case a (tick xs))

  pub stays : (k : ℕ) → agent_after a (replicate k (tick xs)) ≡ a
  stays zero = refl
  stays (suc k) = ap (λ (b : Agent). agent_after b (replicate k (tick xs))) left ∙ stays k

  -- the call with its answer, counted as a tick all the same; and k of them behind a history
  abbrev counted : Entry
  counted = record { call = tick xs; answer = (act a (tick xs)).answer; event = a_tick; before = seen a; after = seen (act a (tick xs)).agent }

  abbrev behind : History → ℕ → History
  behind h zero = h
  behind h (suc k) = behind h k ▸ counted

  silent : (h : History) (k : ℕ) → k ≤ silence (behind h k)
  silent h zero = omega arith
  silent h (suc k) = omega (arith, silent h k)

  -- n × t of them: in RUN, where the claim wants fallback
  pub not_every_call : (h : History) (k : ℕ) → a.mode ≡ in_run → (seen a).n * (seen a).t ≤ suc k → Holds (behind h (suc k)) → ⊥
  not_every_call h k run far holds =
      let safe = holds.bounded.sync_silence _ _ now record { tick = refl; limit = omega (arith, far, silent h k) } in
      omega (arith, run, safe.mode, ap (λ (b : Agent). b.mode) left)

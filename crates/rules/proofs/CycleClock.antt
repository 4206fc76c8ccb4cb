-- What a tick does to t, e and c, for any agent: t stays; e goes up by one; at the end of the cycle c goes up by one
-- and e starts again. Assumes nothing.
use mathlib.Core.Path.{◌≡◌, refl, ap, ◌∙◌}
use Prim.Native.Nat.{ℕ, ◌+◌, ◌%◌, ◌≤◌, ◌<◌}
use native.Mathlib.Omega.{arith}
use borrow.Author.Tests.{le-leb, lt-leb}
use lib.Dec.{leb}
use Rattle.base.proofs.Choosing.{by_test, choose_true, choose_false}
use Rattle.rules.specs.Fallback.{enter_fallback}
use Rattle.rules.specs.Registers.{tcyc}
use Rattle.rules.specs.State.{unheard, t_of, with_cycle}
use Rattle.rules.specs.Tick.{counted, sync_limit, command_limit, window_limit, limited, cycle_ended, ticked}
use Rattle.rules.specs.declared.Agent.{Agent}
use Rattle.rules.proofs.ButFor.{fallback_others}

-- the same t, e and c
record SameClock (a b : Agent) : Type 0 where
  t : t_of b ≡ t_of a
  e : b.elapsed ≡ a.elapsed
  c : b.cycle ≡ a.cycle

fallen_clock : (g : ℕ) (a : Agent) → SameClock a (enter_fallback g a)
unfolding enter_fallback
fallen_clock g a = record { t = fallback_others a g tcyc refl refl refl refl; e = refl; c = refl }

limited_clock : (a : Agent) → SameClock a (limited a)
unfolding limited
limited_clock a =
    by_test (SameClock a) (sync_limit a) (λ h. fallen_clock _ a)
    (λ h. by_test (SameClock a) (command_limit a) (λ k. fallen_clock _ a)
    (λ k. by_test (SameClock a) (window_limit a) (λ w. fallen_clock _ a) (λ w. record { t = refl; e = refl; c = refl })))

module _ (a : Agent) where
  -- the agent that the end of the cycle is judged of
  judged : Agent
  judged = limited (counted a)

  judged_t : t_of judged ≡ t_of a
  unfolding judged counted
  judged_t = (limited_clock (counted a)).t

  judged_e : judged.elapsed ≡ a.elapsed + 1
  unfolding judged counted
  judged_e = (limited_clock (counted a)).e

  judged_c : judged.cycle ≡ a.cycle
  unfolding judged counted
  judged_c = (limited_clock (counted a)).c

  pub tick_t : t_of (ticked a) ≡ t_of a
  unfolding ticked cycle_ended judged
  tick_t = by_test (λ (b : Agent). t_of b ≡ t_of a) (leb (t_of judged) judged.elapsed) (λ h. judged_t) (λ h. judged_t)

  -- before the end of the cycle
  pub tick_early : a.elapsed + 1 < t_of a → ((ticked a).elapsed ≡ a.elapsed + 1) × ((ticked a).cycle ≡ a.cycle)
  unfolding ticked cycle_ended judged
  tick_early h =
      let e : ticked a ≡ judged = choose_false (with_cycle ((judged.cycle + 1) % 256) unheard 0 0 judged) judged
      (lt-leb (t_of judged) judged.elapsed (omega (arith, judged_t, judged_e))) in
      (ap (λ (b : Agent). b.elapsed) e ∙ judged_e, ap (λ (b : Agent). b.cycle) e ∙ judged_c)

  -- at its end
  pub tick_end : t_of a ≤ a.elapsed + 1 → (ticked a).cycle ≡ (a.cycle + 1) % 256
  unfolding ticked cycle_ended judged
  tick_end h =
      ap (λ (b : Agent). b.cycle)
      (choose_true (with_cycle ((judged.cycle + 1) % 256) unheard 0 0 judged) judged (le-leb (t_of judged) judged.elapsed (omega (arith, judged_t, judged_e))))
      ∙ ap (λ (c : ℕ). (c + 1) % 256) judged_c

-- What a good agent's view says: the two modes, outputs zero in fallback, and a recorded source where there is a last
-- one. Assumes nothing.
use mathlib.Core.Bool.{true, not}
use mathlib.Core.Logic.{⊎_elim}
use mathlib.Core.Path.{◌≡◌, ap}
use Prim.Native.Nat.{ℕ}
use native.Mathlib.Omega.{arith}
use borrow.Author.Tests.{ne_eqb}
use lib.Dec.{eqb}
use Rattle.rules.specs.Good.{Good}
use Rattle.rules.specs.Registers.{tcyc, cnf_cyc}
use Rattle.rules.specs.Sources.{is_recorded}
use Rattle.rules.specs.State.{in_run, in_fallback}
use Rattle.rules.specs.declared.Agent.{Agent}
use Rattle.rules.proofs.GoodFacts.{good_byte, good_t, good_last, good_modes, fallback_zero}
use Rattle.rules.proofs.Recorded.{holds_where}
use Rattle.demand3.proofs.Views.{view_of, Facts}

-- a recorded source is one of at least one
pub recorded_some : (a : Agent) (x : ℕ) → is_recorded a x ≡ true → not (eqb a.count 0) ≡ true
unfolding is_recorded
recorded_some a x e =
    let w = holds_where a.known a.count x e in
    ap not (ne_eqb a.count 0 (λ z. omega (arith, w.1)))

module _ (a : Agent) (g : Good a) where
  pub two_modes : (a.mode ≡ in_run → ⊥) → a.mode ≡ in_fallback
  two_modes h = ⊎_elim (λ e. absurd (h e)) (λ e. e) (good_modes a g)

  pub good_facts : Facts (view_of a)
  good_facts = record {
    modes = two_modes;
    cold = fallback_zero a g;
    t = omega (arith, good_byte a g tcyc);
    t_set = good_t a g;
    n = omega (arith, good_byte a g cnf_cyc);
    known = λ h. ⊎_elim (recorded_some a a.last) (λ e. absurd (h e.0)) (good_last a g);
  }

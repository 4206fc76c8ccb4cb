-- The loop over the ticks of a clock. Assumes nothing.
use Rattle.std.proofs.Common.{◌≡◌, ℕ, ◌+◌, ◌-◌, ◌%◌, ◌<◌, ◌≤◌, leb, sym, ap, ◌∙◌, le-leb}
use borrow.Author.Tests.{lt-leb}
use Rattle.base.proofs.Choosing.{choose_true, choose_false}
use Rattle.base.proofs.Fills.{left_turn, left_end}
use Rattle.rules.specs.State.{unheard}
use Rattle.agent_rest.specs.Rest.{more_silence, clock_tick, clock_ticks}
use Rattle.agent_rest.specs.declared.Clock.{Clock}

module _ (t n i : ℕ) (k z : Clock) (inv : clock_ticks t (n - i) k ≡ z) where
  pub clock_turn : (next : Clock) → i < n → next ≡ clock_tick t k → clock_ticks t (n - (i + 1)) next ≡ z
  unfolding clock_ticks
  clock_turn next h q = ap (clock_ticks t (n - (i + 1))) q ∙ ap (λ (m : ℕ). clock_ticks t m k) (sym (left_turn n i h)) ∙ inv

  pub clock_end : n ≤ i → k ≡ z
  unfolding clock_ticks
  clock_end h = ap (λ (m : ℕ). clock_ticks t m k) (sym (left_end n i h)) ∙ inv

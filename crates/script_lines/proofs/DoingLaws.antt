-- Laws of what a line does: ticks one by one, and what a call hands back. Assumes nothing.
use mathlib.Core.Path.{◌≡◌, refl, sym, ap, ◌∙◌}
use Prim.Native.Nat.{ℕ, zero, suc, ◌+◌, ◌-◌, ◌≤◌, ◌<◌}
use Rattle.base.proofs.Fills.{left_turn, left_end}
use Rattle.rules.specs.Calls.{tick_call}
use Rattle.rules.specs.State.{t_of}
use Rattle.rules.specs.declared.Agent.{Agent}
use Rattle.agent_rest.specs.Rest.{Rests, clock_of, with_clock_of, clock_tick, clock_ticks}
use Rattle.agent_rest.proofs.RestLaws.{rest_tick, rest_stays}
use Rattle.script_lines.specs.Doing.{held_inputs, after_ticks}

-- ---- ticks
pub ticks_turn : (n i : ℕ) (a b z : Agent) → i < n → b ≡ (tick_call a (held_inputs a)).agent → after_ticks (n - i) a ≡ z → after_ticks (n - (i + 1)) b ≡ z
unfolding after_ticks
ticks_turn n i a b z h q e = ap (after_ticks (n - (i + 1))) q ∙ ap (λ (m : ℕ). after_ticks m a) (sym (left_turn n i h)) ∙ e

pub ticks_end : (n i : ℕ) (a z : Agent) → n ≤ i → after_ticks (n - i) a ≡ z → a ≡ z
unfolding after_ticks
ticks_end n i a z h e = ap (λ (m : ℕ). after_ticks m a) (sym (left_end n i h)) ∙ e

-- those of a module at rest move its clock alone
pub ticks_rest : (n : ℕ) (a : Agent) → Rests a → after_ticks n a ≡ with_clock_of (clock_ticks (t_of a) n (clock_of a)) a
unfolding after_ticks clock_ticks
ticks_rest zero a x = refl
ticks_rest (suc n) a x = ap (after_ticks n) (rest_tick a x) ∙ ticks_rest n (with_clock_of (clock_tick (t_of a) (clock_of a)) a) (rest_stays a x)

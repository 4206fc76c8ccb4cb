-- P8: ticks from power-up, whatever MAC, IID, VER and limit. A law over the number of ticks, so that none has to be computed.
-- Assumes nothing.
use mathlib.Core.Bool.{true}
use mathlib.Core.Path.{◌≡◌, refl, ap, ◌∙◌}
use Prim.Native.Nat.{ℕ, zero, suc, ◌+◌, ◌%◌}
use native.Mathlib.Omega.{arith}
use Rattle.base.proofs.Bytes.{bytes_replicate}
use Rattle.base.proofs.Choosing.{choose_true}
use Rattle.base.proofs.Stored.{stored_before}
use Rattle.rules.specs.Answers.{accepted, unsound}
use Rattle.rules.specs.Calls.{tick, tick_call, act}
use Rattle.rules.specs.Fixed.{fits}
use Rattle.rules.specs.Good.{Good}
use Rattle.rules.specs.Inputs.{with_inputs}
use Rattle.rules.specs.PowerUp.{power_regs, power_up}
use Rattle.rules.specs.Registers.{tcyc, inputs_at, image, low_bytes}
use Rattle.rules.specs.Replies.{Outcome, outcome}
use Rattle.rules.specs.State.{t_of}
use Rattle.rules.specs.Tick.{ticked}
use Rattle.rules.specs.declared.Agent.{Agent}
use Rattle.rules.specs.declared.Fixed.{Fixed}
use Rattle.rules.proofs.CycleClock.{tick_t, tick_early, tick_end}
use Rattle.rules.proofs.GoodNext.{good_next}
use Rattle.rules.proofs.GoodStart.{good_start}
use Rattle.bench.specs.BusCalls.{after, inputs, silent}

-- the tick call of a sound agent ticks
tick_ticks : (a : Agent) → Good a → (act a (tick inputs)).agent ≡ ticked (with_inputs inputs a)
unfolding tick_call
tick_ticks a g = ap (λ (o : Outcome). o.agent) (choose_true (outcome accepted (ticked (with_inputs inputs a))) (outcome unsound a) g.sound_is)

-- the inputs stored leave t, e and c
stored_t : (a : Agent) → t_of (with_inputs inputs a) ≡ t_of a
unfolding with_inputs
stored_t a = stored_before a.regs inputs_at inputs tcyc (omega arith)

stored_e : (a : Agent) → (with_inputs inputs a).elapsed ≡ a.elapsed
unfolding with_inputs
stored_e a = refl

stored_c : (a : Agent) → (with_inputs inputs a).cycle ≡ a.cycle
unfolding with_inputs
stored_c a = refl

-- the last tick of a cycle raises c
cycle_ends : (n : ℕ) (a : Agent) → Good a → a.elapsed + n + 1 ≡ t_of a → (after (silent (suc n)) a).cycle ≡ (a.cycle + 1) % 256
cycle_ends zero a g e =
    ap (λ (b : Agent). b.cycle) (tick_ticks a g) ∙ tick_end (with_inputs inputs a) (omega (arith, stored_t a, stored_e a))
    ∙ ap (λ (c : ℕ). (c + 1) % 256) (stored_c a)
cycle_ends (suc n) a g e =
    let b : Agent = (act a (tick inputs)).agent in
    let s : b ≡ ticked (with_inputs inputs a) = tick_ticks a g in
    let w = tick_early (with_inputs inputs a) (omega (arith, stored_t a, stored_e a)) in
    let e1 : b.elapsed ≡ a.elapsed + 1 = ap (λ (x : Agent). x.elapsed) s ∙ w.0 ∙ ap (λ (x : ℕ). x + 1) (stored_e a) in
    let t1 : t_of b ≡ t_of a = ap t_of s ∙ tick_t (with_inputs inputs a) ∙ stored_t a in
    let c1 : b.cycle ≡ a.cycle = ap (λ (x : Agent). x.cycle) s ∙ w.1 ∙ stored_c a in
    cycle_ends n b (good_next a (tick inputs) g (bytes_replicate image 0x00 (omega arith))) (omega arith) ∙ ap (λ (c : ℕ). (c + 1) % 256) c1

module _ (mac iid ver : ℕ) (fixed : Fixed) where
  start_t : t_of (power_up mac iid ver fixed) ≡ 0xFF
  unfolding power_up power_regs low_bytes
  start_t = refl

  start_e : (power_up mac iid ver fixed).elapsed ≡ 0
  unfolding power_up
  start_e = refl

  start_c : (power_up mac iid ver fixed).cycle ≡ 0
  unfolding power_up
  start_c = refl

  pub first_cycle : fits fixed ≡ true → (after (silent 255) (power_up mac iid ver fixed)).cycle ≡ 0x01
  first_cycle f =
      cycle_ends 254 (power_up mac iid ver fixed) (good_start mac iid ver fixed f) (omega (arith, start_t, start_e))
      ∙ ap (λ (c : ℕ). (c + 1) % 256) start_c

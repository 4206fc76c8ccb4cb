-- A tick call that is refused, and the frame call past the host's numbers. Assumes nothing.
use Rattle.std.proofs.Common.{◌≡◌, ℕ, ◌≤◌, true, ◌||◌, List, length, eqb, refl}
use mathlib.Core.Path.{◌∙◌}
use Rattle.std.specs.Prelude.{Option}
use Rattle.base.proofs.Choosing.{by_test}
use borrow.Author.Tests.{le-ltb}
use Rattle.frame_kinds.specs.declared.kinds.Frame.{Frame}
use Rattle.rules.specs.Answers.{accepted}
use Rattle.rules.specs.Calls.{Answers, AnswersFrame, tick_call, frame_call}
use Rattle.rules.specs.FrameCall.{on_frame}
use Rattle.rules.specs.Registers.{image}
use Rattle.rules.specs.Replies.{Deed, Outcome, does, send_reply, sent}
use Rattle.rules.specs.Sound.{sound}
use Rattle.rules.specs.declared.Agent.{Agent}

-- another answer than 0 to a tick leaves the agent as it is
module _ (a : Agent) (xs : List ℕ) where
  kept : ((tick_call a xs).answer ≡ accepted → ⊥) → a ≡ (tick_call a xs).agent
  unfolding tick_call
  kept =
      let Keeps : Outcome → Type 0 = λ o. (o.answer ≡ accepted → ⊥) → a ≡ o.agent in
      by_test Keeps (sound a) (λ s. by_test Keeps (eqb (length xs) image) (λ e z. absurd (z refl)) (λ e z. refl)) (λ s z. refl)

  pub tick_refused : (n : ℕ) → n ≡ (tick_call a xs).answer → (n ≡ accepted → ⊥) → Answers (tick_call a xs) n a
  tick_refused n e z = (e, kept (λ h. z (e ∙ h)))

module _ (a : Agent) (port : ℕ) (body before : List ℕ) (s : true ≡ sound a) (r : 545 ≤ length before) (k : (eqb port 1 || eqb port 2) ≡ true) where
  passes : frame_call a port body (length before) ≡ sent (on_frame port a body)
  unfolding frame_call
  passes = rw (← s, le-ltb _ _ r, k) refl

  pub frame_refused : (n : ℕ) (b : Agent) → does n b ≡ on_frame port a body → AnswersFrame (frame_call a port body (length before)) n b 0 before before
  unfolding sent
  frame_refused n b d = rw (passes, ← d) (refl, refl, refl, refl)

  pub frame_sends : (says : Option Frame) (b c : Agent) (m : ℕ) (after : List ℕ) → ◌≡◌ {A = Deed} (record { answer = 0; agent = b; reply = says }) (on_frame port a body)
      → AnswersFrame (send_reply says 0 b) 0 c m before after → AnswersFrame (frame_call a port body (length before)) 0 c m before after
  unfolding sent
  frame_sends says b c m after d h = rw (passes, ← d) h

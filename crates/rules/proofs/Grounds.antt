-- The ground in 26h, and what is easily got wrong there: it is stored from RUN alone, the first ground of a tick counts, no write
-- reaches it, and a sound state has one of the six. Assumes nothing.
use mathlib.Core.Bool.{true, false}
use mathlib.Core.List.{List, [], ◌∷◌, map}
use mathlib.Core.Path.{◌≡◌, refl, ap, ◌∙◌}
use Prim.Native.Nat.{ℕ, ◌+◌, ◌≤◌, ◌<◌}
use native.Mathlib.Omega.{arith}
use borrow.Author.Tests.{leb-true}
use lib.ListN.{length}
use Rattle.base.proofs.Choosing.{choose_true, choose_false}
use Rattle.rules.specs.Answers.{outside_rules}
use Rattle.rules.specs.Fallback.{enter_fallback}
use Rattle.rules.specs.Grounds.{no_ground, by_sync_silence, by_command_silence, by_wrong_cycle, by_order, by_window, is_ground}
use Rattle.rules.specs.Registers.{ground_at}
use Rattle.rules.specs.Replies.{does}
use Rattle.rules.specs.Sound.{sound}
use Rattle.rules.specs.State.{running, reg}
use Rattle.rules.specs.Tick.{sync_limit, command_limit, window_limit, limited}
use Rattle.rules.specs.Writes.{span_of, allowed, on_write}
use Rattle.rules.specs.declared.Agent.{Agent}
use Rattle.rules.specs.declared.Span.{Span}
use Rattle.rules.specs.declared.Span.TheVariants as span
use Rattle.rules.proofs.BusTraps.{silent_release}
use Rattle.rules.proofs.Makes.{fallen_ground}
use Rattle.rules.proofs.SoundParts.{parts}
use Rattle.rules.proofs.Spans.{Placed, inside, span_placed}

-- ---- which numbers

-- 0 to 5, and not 6
pub grounds : map is_ground (no_ground ∷ by_sync_silence ∷ by_command_silence ∷ by_wrong_cycle ∷ by_order ∷ by_window ∷ 6 ∷ [])
    ≡ true ∷ true ∷ true ∷ true ∷ true ∷ true ∷ false ∷ []
grounds = refl

pub sound_ground : (a : Agent) → sound a ≡ true → reg a ground_at ≤ 5
sound_ground a e = leb-true (reg a ground_at) by_window (parts a e).settings.ground_is

-- ---- when it is stored
module _ (ground : ℕ) (a : Agent) (size : length a.regs ≡ 256) where
  -- from RUN
  pub ground_shown : running a ≡ true → reg (enter_fallback ground a) ground_at ≡ ground
  ground_shown run = fallen_ground a size ground ∙ choose_true _ _ run

  -- a module that is in fallback already keeps it (and so does one that enters RUN: `run_keeps_ground`)
  pub ground_kept : running a ≡ false → reg (enter_fallback ground a) ground_at ≡ reg a ground_at
  ground_kept rest = fallen_ground a size ground ∙ choose_false _ _ rest

-- ---- which ground a tick has
module _ (a : Agent) where
  -- the sync limit first (`silent_release`), then the command limit, then the window
  pub then_command : sync_limit a ≡ false → command_limit a ≡ true → limited a ≡ enter_fallback by_command_silence a
  unfolding limited
  then_command e f = simp (e, f)

  pub then_window : sync_limit a ≡ false → command_limit a ≡ false → window_limit a ≡ true → limited a ≡ enter_fallback by_window a
  unfolding limited
  then_window e f g = simp (e, f, g)

  -- both silences on one tick, and whatever else it meets: 1
  pub both_silences : length a.regs ≡ 256 → running a ≡ true → sync_limit a ≡ true → command_limit a ≡ true → reg (limited a) ground_at ≡ 1
  both_silences size run e f = ap (λ (b : Agent). reg b ground_at) (silent_release a e) ∙ ground_shown by_sync_silence a size run

-- ---- no write reaches it
pub ground_not_written : (a : Agent) (add : ℕ) (xs : List ℕ) → add ≤ ground_at → ground_at < add + length xs → on_write a add xs ≡ does outside_rules a
unfolding on_write
ground_not_written a add xs low high = choose_false _ _ (refused (span_of add (length xs)) (span_placed add (length xs)))
  where
    refused : (s : Span) → Placed add (length xs) s → allowed s a add xs ≡ false
    refused span.Release (inside _ some l h) = absurd (omega arith)
    refused span.CycleTime (inside _ some l h) = absurd (omega arith)
    refused span.Limits (inside _ some l h) = absurd (omega arith)
    refused span.Counters (inside _ some l h) = absurd (omega arith)
    refused span.Config (inside _ some l h) = absurd (omega arith)
    refused span.Outputs (inside _ some l h) = absurd (omega arith)
    refused span.Outside p = refl

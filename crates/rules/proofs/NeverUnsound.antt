-- No rule answers 19, so a good agent is never answered 19. Assumes nothing.
use mathlib.Core.Bool.{true, false, ◌&&◌}
use mathlib.Core.List.{List}
use mathlib.Core.Path.{◌≡◌, refl, sym, ◌∙◌}
use Prim.Native.Nat.{ℕ}
use borrow.Author.Tests.{eqb-false}
use lib.Dec.{eqb}
use Rattle.base.proofs.Choosing.{never}
use Rattle.frame_kinds.specs.declared.kinds.Frame.{Frame}
use Rattle.rules.specs.Answers.{unsound}
use Rattle.rules.specs.Calls.{Call, act}
use Rattle.rules.specs.Good.{Good}
use Rattle.rules.specs.Refusals.{read_of, is_sync, reads_sync, skips_by, skips_read}
use Rattle.rules.specs.Replies.{Deed, Outcome}
use Rattle.rules.specs.Sound.{sound}
use Rattle.rules.specs.State.{running}
use Rattle.rules.specs.declared.Agent.{Agent}
use Rattle.rules.proofs.Cases.{is_hosts, KindCase, refuses, fell, missed, outside, accepts, FrameCase, unread, read_as, CallCase, unsoundly, hosts, ticks, frames, call_case, by_sent}
use Rattle.rules.proofs.MarkSteps.{is_marking, apart}

abbrev Other : ℕ → Type 0
Other n = eqb n unsound ≡ false

kind_other : {a : Agent} {f : Frame} {xs : List ℕ} {d : Deed} → KindCase a f xs d → Other d.answer
kind_other {a = a} {f = f} (refuses n h) = apart (is_marking (is_sync f && running a) (skips_by a f)) n unsound h refl
kind_other (fell e) = refl
kind_other (missed e) = refl
kind_other (outside p) = refl
kind_other (accepts c) = refl

frame_other : {a : Agent} {body : List ℕ} {d : Deed} → FrameCase a body d → Other d.answer
frame_other {a = a} {body = body} (unread n h) = apart (is_marking (reads_sync (read_of body) && running a) (skips_read a (read_of body))) n unsound h refl
frame_other (read_as f v e c) = kind_other c

call_other : {a : Agent} {call : Call} {o : Outcome} → sound a ≡ true → CallCase a call o → Other o.answer
call_other s (unsoundly e) = never (sym e ∙ s)
call_other s (hosts n h) = apart is_hosts n unsound h refl
call_other s (ticks e) = refl
call_other s (frames {d = d} c) = by_sent (λ o. Other o.answer) d (frame_other c) (λ f. frame_other c)

pub never_unsound : (a : Agent) (call : Call) → Good a → (act a call).answer ≡ unsound → ⊥
never_unsound a call g = eqb-false (act a call).answer unsound (call_other g.sound_is (call_case a call))

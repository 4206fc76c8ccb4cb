-- A call has at most one ground, and a history shows one number in 26h. Assumes nothing.
use mathlib.Core.Path.{◌≡◌, refl, sym, ◌∙◌}
use Prim.Native.Nat.{ℕ}
use native.Mathlib.Omega.{arith}
use Rattle.rules.specs.Calls.{Call}
use Rattle.rules.specs.declared.Agent.{Agent}
use Rattle.demand3.specs.Claim.{now, earlier, Everywhere}
use Rattle.demand3.specs.Events.{Event, a_tick, a_request, nothing, event_of, Request}
use Rattle.demand3.specs.Grounds.{WrongSync, Ground, silent, idle, wrong, ordered, late, LastGround, none, passage, still}
use Rattle.demand3.specs.History.{History, Entry}
use Rattle.demand3.specs.Reached.{Reached}
use Rattle.demand3.specs.Words.{event}
use Rattle.demand3.proofs.Meant.{Meant, as_meant}

-- ---- an event is not two things
tick_no_request : {ev : Event} (r : Request) → ev ≡ a_tick → ev ≡ a_request r → ⊥
tick_no_request r p q = let z : ◌≡◌ {A = ℕ} 0 1 = cc in omega arith

nothing_no_tick : nothing ≡ a_tick → ⊥
nothing_no_tick p = let z : ◌≡◌ {A = ℕ} 0 1 = cc in omega arith

nothing_no_request : (r : Request) → nothing ≡ a_request r → ⊥
nothing_no_request r p = let z : ◌≡◌ {A = ℕ} 0 1 = cc in omega arith

-- a sync refused with 12 amounts to nothing
wrong_is_nothing : {call : Call} {answer : ℕ} → WrongSync call answer → event_of call answer ≡ nothing
unfolding event_of
wrong_is_nothing w = rw (w.called, w.refused, w.reads) refl

-- ---- a call whose event is read off the call and its answer
module _ (h : History) (e : Entry) (meant : Meant h e) where
  wrong_no_tick : WrongSync e.call e.answer → event e ≡ a_tick → ⊥
  wrong_no_tick w p = nothing_no_tick (sym (wrong_is_nothing w) ∙ sym meant ∙ p)

  wrong_no_request : (r : Request) → WrongSync e.call e.answer → event e ≡ a_request r → ⊥
  wrong_no_request r w p = nothing_no_request r (sym (wrong_is_nothing w) ∙ sym meant ∙ p)

  pub one_ground : {x y : ℕ} → Ground h e x → Ground h e y → x ≡ y
  one_ground (silent p) (silent q) = refl
  one_ground (silent p) (idle q no_sync) = absurd (no_sync p)
  one_ground (silent p) (wrong w) = absurd (wrong_no_tick w p.tick)
  one_ground (silent p) (ordered o) = absurd (tick_no_request o.request p.tick o.accepted)
  one_ground (silent p) (late q no_sync no-command) = absurd (no_sync p)
  one_ground (idle p no_sync) (silent q) = absurd (no_sync q)
  one_ground (idle p no_sync) (idle q _) = refl
  one_ground (idle p no_sync) (wrong w) = absurd (wrong_no_tick w p.tick)
  one_ground (idle p no_sync) (ordered o) = absurd (tick_no_request o.request p.tick o.accepted)
  one_ground (idle p no_sync) (late q _ no-command) = absurd (no-command p)
  one_ground (wrong w) (silent q) = absurd (wrong_no_tick w q.tick)
  one_ground (wrong w) (idle q no_sync) = absurd (wrong_no_tick w q.tick)
  one_ground (wrong w) (wrong _) = refl
  one_ground (wrong w) (ordered o) = absurd (wrong_no_request o.request w o.accepted)
  one_ground (wrong w) (late q no_sync no-command) = absurd (wrong_no_tick w q.tick)
  one_ground (ordered o) (silent q) = absurd (tick_no_request o.request q.tick o.accepted)
  one_ground (ordered o) (idle q no_sync) = absurd (tick_no_request o.request q.tick o.accepted)
  one_ground (ordered o) (wrong w) = absurd (wrong_no_request o.request w o.accepted)
  one_ground (ordered o) (ordered _) = refl
  one_ground (ordered o) (late q no_sync no-command) = absurd (tick_no_request o.request q.tick o.accepted)
  one_ground (late p no_sync no-command) (silent q) = absurd (no_sync q)
  one_ground (late p no_sync no-command) (idle q _) = absurd (no-command q)
  one_ground (late p no_sync no-command) (wrong w) = absurd (wrong_no_tick w p.tick)
  one_ground (late p no_sync no-command) (ordered o) = absurd (tick_no_request o.request p.tick o.accepted)
  one_ground (late p no_sync no-command) (late q _ _) = refl

-- ---- a history of such calls
one_last : {h : History} {x y : ℕ} → Everywhere Meant h → LastGround h x → LastGround h y → x ≡ y
one_last m none none = refl
one_last m (passage {h = h} {e = e} l p) (passage _ q) = one_ground h e (m h e now) p q
one_last m (passage l p) (still no-passage q) = absurd (no-passage l)
one_last m (still no-passage p) (passage l q) = absurd (no-passage l)
one_last m (still no-passage p) (still _ q) = one_last (λ past e c. m past e (earlier c)) p q

-- every history of the module from power-up
pub one_shown : {h : History} {a : Agent} {x y : ℕ} → Reached h a → LastGround h x → LastGround h y → x ≡ y
one_shown r = one_last (as_meant r)

-- What a frame that comes with a real body does, by the law of laid bodies: no CRC is computed. Assumes nothing.
use mathlib.Core.Bool.{true, ◌||◌}
use mathlib.Core.List.{List, [], ◌∷◌, ◌++◌}
use mathlib.Core.Path.{◌≡◌, refl, ap, ◌∙◌}
use Prim.Native.Nat.{ℕ, ◌<◌}
use native.Mathlib.Omega.{arith}
use borrow.Author.Tests.{eq-eqb}
use lib.Dec.{eqb}
use lib.ListN.{length}
use Rattle.base.specs.Choice.{choose}
use Rattle.wire.specs.Body.{reserved_addr}
use Rattle.frame_writing.specs.Writing.{fields_fit, fits}
use Rattle.frame_kinds.specs.declared.kinds.Frame.{Frame}
use Rattle.frame_kinds.specs.declared.kinds.Frame.TheVariants.{Sync, SafeRead, SafeWrite, SidAssignment}
use Rattle.rules.specs.Answers.{elsewhere, unsound}
use Rattle.rules.specs.Calls.{least_room, Call, act}
use Rattle.rules.specs.FrameCall.{is_own, on_kind}
use Rattle.rules.specs.Replies.{Outcome, outcome, does, sent}
use Rattle.rules.specs.Sound.{sound}
use Rattle.rules.specs.declared.Agent.{Agent}
use Rattle.rules.proofs.LaidServed.{Layable, frame_acts}
use Rattle.bench.specs.BusCalls.{comes_on, answers, own_sid, own_tid, concentrator, comes, seq_of, after}

-- what it does to an agent
abbrev pub acted : (port addr : ℕ) → Frame → List ℕ → Agent → Outcome
acted port addr f xs a = choose (sound a) (sent (choose (is_own a addr) (on_kind port a f xs) (does elsewhere a))) (outcome unsound a)

comes_acts : {addr : ℕ} {f : Frame} {xs : List ℕ} (port : ℕ) → (eqb port 1 || eqb port 2) ≡ true → Layable addr f xs → (a : Agent)
    → act a (comes_on port addr f xs) ≡ acted port addr f xs a
comes_acts {addr = addr} {f = f} {xs = xs} port p l a = frame_acts addr f xs l port a least_room (omega arith) p

-- on port 1, to the agent that another is known to be
pub acts_at : {addr : ℕ} {f : Frame} {xs : List ℕ} {a b : Agent} → Layable addr f xs → a ≡ b → act a (comes addr f xs) ≡ acted 1 addr f xs b
acts_at {addr = addr} {f = f} {xs = xs} {a = a} l e = comes_acts 1 refl l a ∙ ap (acted 1 addr f xs) e

-- ---- the frames of the bench can be laid
pub assignment_lays : Layable 0xFF (SidAssignment concentrator 0x00000001 0x01 own_sid) []
unfolding fits fields_fit reserved_addr
assignment_lays = record { is_served = refl; sized = omega arith; fit = refl; free = refl }

pub sync_lays : (cyc : ℕ) → cyc < 256 → Layable 0xFF (Sync concentrator cyc) []
unfolding fits fields_fit reserved_addr
sync_lays cyc h = record { is_served = refl; sized = omega arith; fit = refl; free = refl }

pub read_lays : (cyc k datl add : ℕ) → cyc < 256 → datl < 256 → add < 256 → Layable own_tid (SafeRead own_sid concentrator cyc (seq_of cyc k) datl add) []
unfolding fits fields_fit reserved_addr
read_lays cyc k datl add h i j = record { is_served = refl; sized = omega arith; fit = refl; free = refl }

pub write_lays : (cyc k add : ℕ) (xs : List ℕ) → cyc < 256 → length xs < 256 → add < 256
    → Layable own_tid (SafeWrite own_sid concentrator cyc (seq_of cyc k) (length xs) add) xs
unfolding fits fields_fit reserved_addr
write_lays cyc k add xs h i j = record { is_served = refl; sized = omega arith; fit = eq-eqb (length xs) (length xs) refl; free = refl }

-- ---- lists of frames that come
pub record Coming : Type 0 where
  pub port : ℕ
  pub addr : ℕ
  pub f : Frame
  pub xs : List ℕ
  pub on_port : (eqb port 1 || eqb port 2) ≡ true
  pub lays : Layable addr f xs

abbrev pub calls : List Coming → List Call
calls [] = []
calls (c ∷ cs) = comes_on c.port c.addr c.f c.xs ∷ calls cs

-- the agent after them, and the answers
abbrev pub agent_after : List Coming → Agent → Agent
agent_after [] a = a
agent_after (c ∷ cs) a = agent_after cs (acted c.port c.addr c.f c.xs a).agent

abbrev pub answers_to : List Coming → Agent → List ℕ
answers_to [] a = []
answers_to (c ∷ cs) a = (acted c.port c.addr c.f c.xs a).answer ∷ answers_to cs (acted c.port c.addr c.f c.xs a).agent

pub after_calls : (cs : List Coming) (a : Agent) → after (calls cs) a ≡ agent_after cs a
after_calls [] a = refl
after_calls (c ∷ cs) a =
    ap (λ (o : Outcome). after (calls cs) o.agent) (comes_acts c.port c.on_port c.lays a)
    ∙ after_calls cs (acted c.port c.addr c.f c.xs a).agent

pub answers_calls : (cs : List Coming) (a : Agent) → answers (calls cs) a ≡ answers_to cs a
answers_calls [] a = refl
answers_calls (c ∷ cs) a =
    let b : Outcome = acted c.port c.addr c.f c.xs a in
    ap (λ (o : Outcome). o.answer ∷ answers (calls cs) o.agent) (comes_acts c.port c.on_port c.lays a)
    ∙ ap (λ (l : List ℕ). b.answer ∷ l) (answers_calls cs b.agent)

-- ---- one frame, and calls after calls
pub after_comes : {addr : ℕ} {f : Frame} {xs : List ℕ} → Layable addr f xs → (rest : List Call) (a : Agent)
    → after (comes addr f xs ∷ rest) a ≡ after rest (acted 1 addr f xs a).agent
after_comes l rest a = ap (λ (o : Outcome). after rest o.agent) (comes_acts 1 refl l a)

pub after_append : (xs ys : List Call) (a : Agent) → after (xs ++ ys) a ≡ after ys (after xs a)
after_append [] ys a = refl
after_append (x ∷ xs) ys a = after_append xs ys (act a x).agent

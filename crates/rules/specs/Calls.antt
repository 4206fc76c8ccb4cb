-- The calls: the host's numbers, 19, 20 and 21, come first. Assumes nothing.
use Rattle.std.specs.Prelude.{◌||◌, List, ◌++◌, ◌≡◌, ℕ, eqb, ltb, length, drop}
use Rattle.base.specs.Choice.{choose}
use Rattle.rules.specs.Answers.{accepted, unsound, reply_room, host_input}
use Rattle.rules.specs.FrameCall.{on_frame}
use Rattle.rules.specs.Inputs.{with_inputs}
use Rattle.rules.specs.Registers.{image}
use Rattle.rules.specs.Replies.{Outcome, outcome, sent}
use Rattle.rules.specs.Sound.{sound}
use Rattle.rules.specs.Tick.{ticked}
use Rattle.rules.specs.declared.Agent.{Agent}

-- the minimum length of the reply buffer, in bytes
abbrev pub least_room : ℕ
least_room = 545

-- the inputs: they are stored, then the tick runs
unfoldable pub tick_call : Agent → List ℕ → Outcome
tick_call a xs =
    choose (sound a)
    (choose (eqb (length xs) image) (outcome accepted (ticked (with_inputs xs a))) (outcome host_input a))
    (outcome unsound a)

-- a port, a body, and the length of the reply buffer
unfoldable pub frame_call : Agent → ℕ → List ℕ → ℕ → Outcome
frame_call a port body room =
    choose (sound a)
    (choose (ltb room least_room) (outcome reply_room a)
    (choose (eqb port 1 || eqb port 2) (sent (on_frame port a body)) (outcome host_input a)))
    (outcome unsound a)

-- the reply buffer afterwards: what was sent, then the rest as it was
abbrev pub left_in : Outcome → List ℕ → List ℕ
left_in o buffer = o.line ++ drop (length o.line) buffer

-- a call returns what the rules give: the answer and the agent
abbrev pub Answers : Outcome → ℕ → Agent → Type 0
Answers o answer agent = (answer ≡ o.answer) × (agent ≡ o.agent)

-- a frame call also returns the number of bytes sent, and leaves in the reply buffer what the rules leave there
abbrev pub AnswersFrame : Outcome → ℕ → Agent → ℕ → List ℕ → List ℕ → Type 0
AnswersFrame o answer agent sent before after =
    (answer ≡ o.answer) × (agent ≡ o.agent) × (sent ≡ length o.line) × (after ≡ left_in o before)

-- one call in a list of calls
pub data Call : Type 0 where
  tick : (inputs : List ℕ) → Call
  frame : (port : ℕ) (body : List ℕ) (room : ℕ) → Call

abbrev pub act : Agent → Call → Outcome
act a (tick xs) = tick_call a xs
act a (frame port body room) = frame_call a port body room

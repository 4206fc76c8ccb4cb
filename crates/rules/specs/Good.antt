-- What holds of every agent that calls from power-up lead to: it is sound, and its arrays are as the types say.
-- Assumes nothing.
use Rattle.std.specs.Prelude.{true, ◌≡◌, length}
use Rattle.base.specs.Bytes.{Bytes}
use Rattle.rules.specs.Calls.{Call, tick, frame}
use Rattle.rules.specs.Sound.{sound}
use Rattle.rules.specs.declared.Agent.{Agent}

pub record Good (a : Agent) : Type 0 where
  pub sound_is : sound a ≡ true
  pub registers : length a.regs ≡ 256
  pub bytes : Bytes a.regs
  pub places : length a.known ≡ 8

-- what the types say of a call: inputs and body are bytes
abbrev pub BytesCall : Call → Type 0
BytesCall (tick xs) = Bytes xs
BytesCall (frame port body room) = Bytes body

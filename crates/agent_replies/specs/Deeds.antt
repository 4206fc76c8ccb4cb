-- What a rule gives back, and the agent then, as a deed of `rules`. Assumes nothing.
use Rattle.std.specs.Prelude.{Option, Result, Ok, Err}
use Rattle.frame_kinds.specs.declared.kinds.Frame.{Frame}
use Rattle.rules.specs.Answers.{accepted}
use Rattle.rules.specs.Replies.{Deed, does}
use Rattle.rules.specs.declared.Agent.{Agent}
use Rattle.agent_state.specs.Refusing.{number_of}
use Rattle.agent_state.specs.declared.refusal.Refusal.{Refusal}

abbrev pub deed_of : Result (Option Frame) Refusal → Agent → Deed
deed_of (Ok r) a = record { answer = accepted; agent = a; reply = r }
deed_of (Err e) a = does (number_of e) a

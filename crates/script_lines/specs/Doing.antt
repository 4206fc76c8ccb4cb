-- The module of a script, and what a line does to it. Assumes nothing.
use Rattle.std.specs.Prelude.{List, ℕ, zero, suc, take, drop, Result, Ok, Err}
use Rattle.std.proofs.Common.{Bor}
use Rattle.rules.specs.Answers.{accepted}
use Rattle.rules.specs.Calls.{least_room, tick_call, frame_call}
use Rattle.rules.specs.Fixed.{doors_limit, fixed_by}
use Rattle.rules.specs.PowerUp.{power_up}
use Rattle.rules.specs.Registers.{inputs_at, image}
use Rattle.rules.specs.Replies.{Outcome, outcome}
use Rattle.rules.specs.declared.Agent.{Agent}
use Rattle.agent_state.specs.Refusing.{number_of}
use Rattle.agent_state.specs.declared.refusal.Refusal.{Refusal}
use Rattle.script_lines.specs.Forms.{Step, ticks, frame, inputs, bad}

-- "The script's module starts at power-up with MAC 1, IID 2 and VER 0"; its limit of requests is that of doors
abbrev pub script_module : Agent
script_module = power_up 1 2 0 (fixed_by doors_limit)

-- the inputs held: registers C0h to FFh (document 02: "`I` now does both, and `T` repeats the inputs already held")
abbrev pub held_inputs : Agent → List ℕ
held_inputs a = take image (drop inputs_at a.regs)

-- n ticks, each with the inputs held before it
unfoldable pub after_ticks : ℕ → Agent → Agent
after_ticks zero a = a
after_ticks (suc n) a = after_ticks n (tick_call a (held_inputs a)).agent

-- for ticks and inputs the answer is 0; a bad line changes nothing
abbrev pub done : Agent → Step → Outcome
done a (ticks n) = outcome accepted (after_ticks n a)
done a (frame port body) = frame_call a port body least_room
done a (inputs xs) = outcome accepted (tick_call a xs).agent
done a bad = outcome accepted a

-- what a call returned, with what it lent of the reply buffer, and the module then
abbrev pub told : Result (Bor (List ℕ)) Refusal → Agent → Outcome
told (Ok sent) a = record { answer = accepted; agent = a; line = sent.now }
told (Err e) a = outcome (number_of e) a

-- Calls with real bodies, and lists of calls. The bodies are those that the frame writer's definitions lay down.
-- Assumes nothing.
use Rattle.std.specs.Prelude.{List, [], ◌∷◌, ℕ, zero, suc, ◌+◌, ◌%◌, length, replicate}
use Rattle.laying.specs.Laying.{body_of}
use Rattle.frame_kinds.specs.Kinds.{app_of}
use Rattle.frame_kinds.specs.declared.kinds.Frame.{Frame}
use Rattle.frame_kinds.specs.declared.kinds.Frame.TheVariants.{Sync, SafeRead, SafeWrite, SidAssignment}
use Rattle.rules.specs.Calls.{least_room, Call, tick, frame, act}
use Rattle.rules.specs.Fixed.{doors_limit, fixed_by}
use Rattle.rules.specs.PowerUp.{power_up}
use Rattle.rules.specs.Registers.{image}
use Rattle.rules.specs.Requests.{first_seq}
use Rattle.rules.specs.declared.Agent.{Agent}

-- the module with a limit of requests: MAC 1, IID 2 and VER 0; it gets SID 000005h, and its TID stays 8Fh
abbrev pub module_of : ℕ → Agent
module_of limit = power_up 0x01 0x02 0x00 (fixed_by limit)

-- with the limit of document 01's cases
abbrev pub module1 : Agent
module1 = module_of doors_limit

abbrev pub own_sid : ℕ
own_sid = 0x000005

abbrev pub own_tid : ℕ
own_tid = 0x8F

abbrev pub concentrator : ℕ
concentrator = 0x000007

-- ---- calls

-- a frame with its data comes on a port for an address; the reply buffer has the minimum length
abbrev pub comes_on : (port addr : ℕ) → Frame → List ℕ → Call
comes_on port addr f xs = frame port (body_of addr (app_of f xs)) least_room

abbrev pub comes : ℕ → Frame → List ℕ → Call
comes addr f xs = comes_on 1 addr f xs

abbrev pub assigns : Call
assigns = comes 0xFF (SidAssignment concentrator 0x00000001 0x01 own_sid) []

abbrev pub syncs : ℕ → Call
syncs cyc = comes 0xFF (Sync concentrator cyc) []

-- SEQ of the request that follows k others in a cycle
abbrev pub seq_of : ℕ → ℕ → ℕ
seq_of cyc k = (first_seq cyc + k) % 256

abbrev pub asks_for : (cyc k datl add : ℕ) → Call
asks_for cyc k datl add = comes own_tid (SafeRead own_sid concentrator cyc (seq_of cyc k) datl add) []

abbrev pub writes_to : (cyc k add : ℕ) → List ℕ → Call
writes_to cyc k add xs = comes own_tid (SafeWrite own_sid concentrator cyc (seq_of cyc k) (length xs) add) xs

-- ---- lists of calls

-- the agent after them, and the answers
abbrev pub after : List Call → Agent → Agent
after [] a = a
after (x ∷ xs) a = after xs (act a x).agent

abbrev pub answers : List Call → Agent → List ℕ
answers [] a = []
answers (x ∷ xs) a = (act a x).answer ∷ answers xs (act a x).agent

-- n ticks, the inputs all 00h
abbrev pub inputs : List ℕ
inputs = replicate image 0x00

abbrev pub silent : ℕ → List Call
silent zero = []
silent (suc n) = tick inputs ∷ silent n

-- A list of calls as bytes, so that any list can be passed to code. Assumes nothing.
use Rattle.std.specs.Prelude.{List, [], ◌∷◌, ◌++◌, ◌≡◌, ℕ, ◌≤◌, ◌<◌, eqb, length, drop}
use Rattle.base.specs.Choice.{choose}
use Rattle.fields.specs.Fields.{laid}
use Rattle.rules.specs.Calls.{Call, tick, frame}
use Rattle.rules.specs.declared.Agent.{Agent}
use Rattle.demand3.specs.Reached.{Continues}

-- the parts of a call: a number for its kind, its port, the room for a reply, its bytes
abbrev pub kind_of : Call → ℕ
kind_of (tick xs) = 0
kind_of (frame port body room) = 1

abbrev pub port_of : Call → ℕ
port_of (tick xs) = 0
port_of (frame port body room) = port

abbrev pub room_of : Call → ℕ
room_of (tick xs) = 0
room_of (frame port body room) = room

abbrev pub bytes_in : Call → List ℕ
bytes_in (tick xs) = xs
bytes_in (frame port body room) = body

-- the call with these parts
abbrev pub call_of : ℕ → ℕ → List ℕ → ℕ → Call
call_of kind port bytes room = choose (eqb kind 0) (tick bytes) (frame port bytes room)

-- kind and port in a byte each, room and length in eight each, then the bytes
abbrev pub heading : Call → List (ℕ × ℕ)
heading x = (1, kind_of x) ∷ (1, port_of x) ∷ (8, room_of x) ∷ (8, length (bytes_in x)) ∷ []

abbrev pub heading_size : ℕ
heading_size = 18

abbrev pub call_bytes : Call → List ℕ
call_bytes x = laid (heading x) ++ bytes_in x

abbrev pub list_bytes : List Call → List ℕ
list_bytes [] = []
list_bytes (x ∷ xs) = call_bytes x ++ list_bytes xs

-- the code can make the call: its port is a byte, and the lent reply buffer is long enough
abbrev pub Makable : ℕ → Call → Type 0
Makable room x = (port_of x < 256) × (room_of x ≤ room)

abbrev pub AllMakable : ℕ → List Call → Type 0
AllMakable room [] = Unit {0}
AllMakable room (x ∷ xs) = Makable room x × AllMakable room xs

-- a step along the bytes s: it makes the call at index `at`, and goes on to the index after it
pub record Stepped (s : List ℕ) (at room : ℕ) (a : Agent) (answer : ℕ) (b : Agent) (next : ℕ) : Type 0 where
  pub further : at < next
  pub within : next ≤ length s
  pub continues : (x : Call) (rest : List ℕ) → drop at s ≡ call_bytes x ++ rest → Makable room x → Continues a x answer b
  pub comes_to : (x : Call) (rest : List ℕ) → drop at s ≡ call_bytes x ++ rest → Makable room x → drop next s ≡ rest

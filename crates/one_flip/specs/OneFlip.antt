-- One flipped bit on the wire and a module: it acts on no other frame. Assumes nothing.
use Rattle.std.specs.Prelude.{◌≡◌, List, ℕ, length, Ok}
use Rattle.base.specs.Bytes.{Bytes}
use Rattle.frame_kinds.specs.declared.kinds.Frame.{Frame}
use Rattle.frame_reading.specs.Reading.{read_frame}
use Rattle.burst.specs.Damage.{flips}
use Rattle.rules.specs.Calls.{frame, act}
use Rattle.rules.specs.Refusals.{Refused}
use Rattle.rules.specs.declared.Agent.{Agent}

-- what was sent is a frame; the body that arrived on a port differs from it in one bit, address and stuffed bytes counted: whatever the
-- module's state, it refuses it, sends nothing, and changes only what the row of the number says. A bit that makes a flag brings two
-- bodies, and of the second nothing is said here (`flag_cuts` in distance)
abbrev pub OneFlip : Type 0
OneFlip =
    (a : Agent) (port room addr : ℕ) (f : Frame) (app sent got : List ℕ) → Bytes sent → Bytes got → length sent ≡ length got → flips sent got ≡ 1
    → read_frame sent ≡ Ok (addr, f, app) → Refused a (frame port got room) (act a (frame port got room))

-- A script that was read until it was too long, or to its end. Assumes nothing.
use Rattle.std.specs.Prelude.{◌≡◌, List, [], ◌++◌, ℕ, ◌+◌, ◌<◌, length}
use Rattle.std.specs.Io.KnownBytes.{Consumes, IsAtEnd}
use Rattle.std.specs.declared.option.Option.{Option}
use Rattle.removals.specs.Removals.{most_bytes}
use Rattle.which.specs.Printing.{printed}

abbrev pub room : ℕ
room = most_bytes + 1

-- a script was read of an input: all of it, if it does not fill the room
pub record Reads (script input : List ℕ) : Type 0 where
  pub rest : List ℕ
  pub is : input ≡ script ++ rest
  pub ended : length script < room → rest ≡ []

-- THE PROMISE: for any input of which that was read, what is on the page is what is printed for it
abbrev pub Tells : List ℕ → List ℕ → Type 0
Tells script page = (input : List ℕ) → Reads script input → page ≡ printed input

-- ---- what the reader lost
-- the script, and it is at its end unless the script fills the room
pub record ScriptRead (known left : Option (List ℕ)) (script : List ℕ) : Type 0 where
  pub read : Consumes known left script
  pub full : length script < room → IsAtEnd left

-- some bytes
pub record ScriptLost (known left : Option (List ℕ)) : Type 0 where
  pub lost : List ℕ
  pub read : Consumes known left lost

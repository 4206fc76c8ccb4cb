-- A line that may not fit the buffer it is read from. Assumes nothing.
use Rattle.std.specs.Prelude.{List, ℕ, ltb, length, take}
use Rattle.base.specs.Choice.{choose}
use Rattle.script_lines.specs.Forms.{Step, bad, line_of}

-- a line of len characters, of which a buffer keeps the first; if it does not hold them all, the line is bad
unfoldable pub line_in : List ℕ → ℕ → Step
line_in line len = choose (ltb (length line) len) bad (line_of (take len line))

-- The search line by line: the module before each line is kept, and only the lines after it are played again. Assumes nothing.
use Rattle.std.specs.Prelude.{Bool, not, ◌&&◌, List, [], ◌∷◌, ℕ, ◌+◌, Option, Some, None}
use Rattle.base.specs.Choice.{choose}
use Rattle.rules.specs.State.{running}
use Rattle.rules.specs.declared.Agent.{Agent}
use Rattle.script_lines.specs.Forms.{line_of}
use Rattle.script_lines.specs.Doing.{done}
use Rattle.removals.specs.Removals.{is_frame, after_lines}

-- a line is a frame and, without it, the module is in fallback after those that follow; the module is the one before it
abbrev pub matters_here : Agent → List ℕ → List (List ℕ) → Bool
matters_here a l ls = is_frame (line_of l) && not (running (after_lines a ls))

-- the first line that matters, from the one with number n on, with the module before it
unfoldable pub first_from : ℕ → Agent → List (List ℕ) → Option ℕ
first_from n a [] = None
first_from n a (l ∷ ls) = choose (matters_here a l ls) (Some n) (first_from (n + 1) (done a (line_of l)).agent ls)

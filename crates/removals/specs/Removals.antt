-- Document 02, request 12: which one frame of a script mattered, over the list of its lines. Assumes nothing.
use Rattle.std.specs.Prelude.{Bool, true, false, not, ◌&&◌, ◌||◌, List, [], ◌∷◌, ◌++◌, ℕ, zero, suc, ◌+◌, ◌-◌, ltb, length, take, drop, get_or, Option, Some, None, Result, Ok, Err}
use Rattle.base.specs.Choice.{choose}
use Rattle.console.specs.Lines.{lines_of}
use Rattle.rules.specs.State.{running}
use Rattle.rules.specs.declared.Agent.{Agent}
use Rattle.script_lines.specs.Forms.{Step, ticks, frame, inputs, bad, line_of}
use Rattle.script_lines.specs.Doing.{script_module, done}
use Rattle.removals.specs.declared.searching.NoSearch.{NoSearch}
use Rattle.removals.specs.declared.searching.NoSearch.TheVariants.{Long, Fallback}

-- ---- the end of a script
-- the module after lines, played in their order; a bad one changes nothing
unfoldable pub after_lines : Agent → List (List ℕ) → Agent
after_lines a [] = a
after_lines a (l ∷ ls) = after_lines (done a (line_of l)).agent ls

-- "ends in fallback"
abbrev pub ends_in_fallback : List (List ℕ) → Bool
ends_in_fallback ls = not (running (after_lines script_module ls))

-- ---- one line removed
-- a frame is a line with a port digit, whatever is answered to it
abbrev pub is_frame : Step → Bool
is_frame (ticks n) = false
is_frame (frame port body) = true
is_frame (inputs xs) = false
is_frame bad = false

-- the line with number n, counted from 1; no characters if there is none
abbrev pub line_at : ℕ → List (List ℕ) → List ℕ
line_at n ls = get_or ls (n - 1) []

-- all lines but that one
abbrev pub without : ℕ → List (List ℕ) → List (List ℕ)
without n ls = take (n - 1) ls ++ drop n ls

-- "a frame whose removal alone gives fallback at the end"
unfoldable pub matters : List (List ℕ) → ℕ → Bool
matters ls n = is_frame (line_of (line_at n ls)) && ends_in_fallback (without n ls)

-- ---- the answer
-- the number of a line, if there is one, or why none is searched for
abbrev pub Which : Type 0
Which = Result (Option ℕ) NoSearch

-- the smallest number that passes a test, of n and those after it, `count` in all; "or NONE exactly if no such line exists"
unfoldable pub smallest : (ℕ → Bool) → ℕ → ℕ → Option ℕ
smallest test n zero = None
smallest test n (suc count) = choose (test n) (Some n) (smallest test (n + 1) count)

-- "A script that itself ends in fallback prints FALLBACK"; else "the smallest line number of a frame whose removal alone ..."
unfoldable pub which_line : List (List ℕ) → Which
which_line ls = choose (ends_in_fallback ls) (Err Fallback) (Ok (smallest (matters ls) 1 (length ls)))

-- "scripts of at most 200 lines and 60,000 bytes"
abbrev pub most_lines : ℕ
most_lines = 200

abbrev pub most_bytes : ℕ
most_bytes = 60000

abbrev pub is_long : List ℕ → Bool
is_long input = ltb most_bytes (length input) || ltb most_lines (length (lines_of input))

-- WHICH ONE FRAME MATTERED, from the bytes of a script; "one that is longer prints only LONG"
unfoldable pub which_of : List ℕ → Which
which_of input = choose (is_long input) (Err Long) (which_line (lines_of input))

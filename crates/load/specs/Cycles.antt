-- Document 02, request 9: the cycles of a script, and what is printed of them, over the list of its lines. Assumes nothing.
use Rattle.std.specs.Prelude.{ℕ, ◌+◌, Bool, false, ◌&&◌, Ok, Err, List, [], ◌∷◌, ◌++◌, length, take}
use Rattle.base.specs.Choice.{choose}
use Rattle.frame_reading.specs.Reading.{ReadFrame, read_frame}
use Rattle.rules.specs.Answers.{is_accepted}
use Rattle.rules.specs.Refusals.{is_sync}
use Rattle.rules.specs.State.{t_of}
use Rattle.rules.specs.declared.Agent.{Agent}
use Rattle.script_lines.specs.Forms.{Step, ticks, frame, inputs, bad, line_of}
use Rattle.script_lines.specs.Doing.{script_module, done}
use Rattle.load_text.specs.Printing.{cycle_text}
use Rattle.load_text.specs.declared.Cycle.{Cycle}
use Rattle.load.specs.declared.cycles.Counted.{Counted}

-- ---- what each line does
-- what the reader of frames reads as a sync
abbrev pub is_sync_read : ReadFrame → Bool
is_sync_read (Ok (a, f, xs)) = is_sync f
is_sync_read (Err e) = false

-- an accepted sync: a frame that is accepted, whose body is read as a sync
abbrev pub is_opening : Step → ℕ → Bool
is_opening (ticks n) answer = false
is_opening (frame port body) answer = is_accepted answer && is_sync_read (read_frame body)
is_opening (inputs xs) answer = false
is_opening bad answer = false

-- what is counted of the line with number n, which the module a plays: whether it is an accepted sync, TCYC at it, and how many
-- wire bytes are sent
abbrev pub counted : ℕ → Agent → Step → Counted
counted n a s = record { number = n; opens = is_opening s (done a s).answer; tcyc = t_of a; sent = length (done a s).line }

-- the lines from number n on; "BAD lines are counted"
unfoldable pub counted_from : ℕ → Agent → List (List ℕ) → List Counted
counted_from n a [] = []
counted_from n a (l ∷ ls) = counted n a (line_of l) ∷ counted_from (n + 1) (done a (line_of l)).agent ls

-- ---- cycles
-- the wire bytes that are sent before the next accepted sync, or the script's end
unfoldable pub sent_before : List Counted → ℕ
sent_before [] = 0
sent_before (h ∷ hs) = choose h.opens 0 (h.sent + sent_before hs)

-- "A cycle here runs from one accepted sync, its reply included, to the next or the script's end, with TCYC as it is at the first"
unfoldable pub cycles_of : List Counted → List Cycle
cycles_of [] = []
cycles_of (h ∷ hs) =
    choose h.opens (record { first = h.number; bytes = h.sent + sent_before hs; tcyc = h.tcyc } ∷ cycles_of hs) (cycles_of hs)

-- "For each cycle of a script a program of its own prints one line"
unfoldable pub cycles_text : List Cycle → List ℕ
cycles_text [] = []
cycles_text (c ∷ cs) = cycle_text c ++ cycles_text cs

-- "lines past the millionth are not read"
abbrev pub most_lines : ℕ
most_lines = 1000000

-- THE LINE LOAD of a script, from its lines
unfoldable pub load_text : List (List ℕ) → List ℕ
load_text ls = cycles_text (cycles_of (counted_from 1 script_module (take most_lines ls)))

-- The line load line by line: the module, the lines so far and the cycle that is open. Assumes nothing.
use Rattle.std.specs.Prelude.{ℕ, ◌+◌, ◌%◌, ◌^◌, Bool, List, [], nat_le}
use Rattle.base.specs.Choice.{choose}
use Rattle.console.specs.Programs.{Program}
use Rattle.script_lines.specs.Forms.{Step, line_of}
use Rattle.script_lines.specs.Doing.{script_module, done}
use Rattle.load_text.specs.Printing.{no_cycle, open_text}
use Rattle.load_text.specs.declared.Cycle.{Cycle}
use Rattle.load.specs.Cycles.{counted, most_lines}
use Rattle.load.specs.declared.cycles.Counted.{Counted}
use Rattle.load.specs.declared.cycles.Loading.{Loading}

-- before the first line
abbrev pub start : Loading
start = record { agent = script_module; lines = 0; cycle = no_cycle }

-- the line after those so far
abbrev pub counted_next : Loading → Step → Counted
counted_next p s = counted (p.lines + 1) p.agent s

-- the cycle that is open after a line: a new one, or the same with what the line sent; sums are those of 32 bits
unfoldable pub cycle_after : Counted → Cycle → Cycle
cycle_after line cycle =
    choose line.opens (record { first = line.number; bytes = line.sent; tcyc = line.tcyc })
    (record { first = cycle.first; bytes = (cycle.bytes + line.sent) % 2 ^ 32; tcyc = cycle.tcyc })

-- a line: past the millionth nothing changes
unfoldable pub after : Loading → Step → Loading
after p s =
    choose (nat_le most_lines p.lines) p
    (record { agent = (done p.agent s).agent; lines = p.lines + 1; cycle = cycle_after (counted_next p s) p.cycle })

-- and what is printed for it: the cycle that it ends, if it opens another
abbrev pub ended_text : Bool → Cycle → List ℕ
ended_text opens cycle = choose opens (open_text cycle) []

unfoldable pub shown : Loading → Step → List ℕ
shown p s = choose (nat_le most_lines p.lines) [] (ended_text (counted_next p s).opens p.cycle)

-- as a program that answers lines; at the end it prints the cycle that is open
abbrev pub loading : Program Loading
loading = record {
  start = start;
  first = [];
  next = λ p l. after p (line_of l);
  says = λ p l. shown p (line_of l);
  ends = λ p. open_text p.cycle;
}

-- A script, line by line. Assumes nothing.
use Rattle.std.specs.Prelude.{ℕ, ◌+◌, ◌%◌, ◌^◌, List, []}
use Rattle.console.specs.Programs.{Program}
use Rattle.script_lines.specs.Forms.{Step, is_bad, line_of}
use Rattle.script_lines.specs.Doing.{script_module, done}
use Rattle.script_text.specs.Printing.{header_of, printed}
use Rattle.script.specs.declared.playing.Player.{Player}
use Rattle.script_text.specs.declared.View.{View}

-- before the first line
abbrev pub start : Player
start = record { agent = script_module; lines = 0 }

-- the number of the next line, in 64 bits
abbrev pub number_of : Player → ℕ
number_of p = (p.lines + 1) % 2 ^ 64

abbrev pub after : Player → Step → Player
after p s = record { agent = (done p.agent s).agent; lines = number_of p }

abbrev pub shown : View → Player → Step → List ℕ
shown view p s = printed view (number_of p) (is_bad s) (done p.agent s)

-- as a program that answers lines: the header first, then what is shown for each
abbrev pub scripted : View → Program Player
scripted view = record {
  start = start;
  first = header_of view;
  next = λ p l. after p (line_of l);
  says = λ p l. shown view p (line_of l);
  ends = λ p. [];
}

-- The script's module is good after every line, whatever the lines are. Assumes nothing.
use Rattle.std.proofs.Common.{ℕ, List, [], ◌∷◌}
use Rattle.rules.specs.Good.{Good}
use Rattle.console.specs.Programs.{next_all}
use Rattle.script_lines.specs.Forms.{line_of}
use Rattle.script_lines.proofs.GoodLines.{line_sized, done_good, module_good}
use Rattle.script.specs.Playing.{start, after, scripted}
use Rattle.script.specs.declared.playing.Player.{Player}
use Rattle.script_text.specs.declared.View.{View}

from_good : (view : View) (p : Player) (ls : List (List ℕ)) → Good p.agent → Good (next_all (scripted view) p ls).agent
from_good view p [] g = g
from_good view p (l ∷ ls) g = from_good view (after p (line_of l)) ls (done_good p.agent (line_of l) g (line_sized l))

pub script_good : (view : View) (ls : List (List ℕ)) → Good (next_all (scripted view) start ls).agent
script_good view ls = from_good view start ls module_good

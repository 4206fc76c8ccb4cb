-- The ticks that are left, from here, give the whole. Assumes nothing.
use Rattle.std.proofs.Common.{◌≡◌, ◌-◌}
use Rattle.script_lines.specs.Doing.{after_ticks}
use Rattle.script_lines.proofs.doing.ticks.Given as goal

abbrev pub invariant-loop-i : goal.invariant-loop-i
invariant-loop-i l = after_ticks (l.n - l.i) l.agent ≡ after_ticks l.n l.fn.agent

-- After i turns: whether the first i are distinct, and none of them FFFFFFh or more. Assumes nothing.
use Rattle.std.proofs.Common.{◌≡◌, ◌&&◌}
use Rattle.rules.specs.Sources.{distinct, below24}
use Rattle.agent_state.proofs.sources.are_listed.Given as goal

abbrev pub invariant-loop-i : goal.invariant-loop-i
invariant-loop-i l = l.ok ≡ (distinct l.known l.i && below24 l.known l.i)

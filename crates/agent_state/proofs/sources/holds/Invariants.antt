-- After i turns: x is none of the first i. Assumes nothing.
use Rattle.std.proofs.Common.{◌≡◌, false}
use Rattle.rules.specs.Sources.{holds}
use Rattle.agent_state.proofs.sources.holds.Given as goal

abbrev pub invariant-loop-i : goal.invariant-loop-i
invariant-loop-i l = false ≡ holds l.known l.i l.x

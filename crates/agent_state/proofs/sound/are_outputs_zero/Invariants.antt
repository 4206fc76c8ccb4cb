-- After i turns: whether the first i outputs are 0. Assumes nothing.
use Rattle.std.proofs.Common.{◌≡◌}
use Rattle.rules.specs.Sound.{outputs_zero}
use Rattle.agent_state.proofs.sound.are_outputs_zero.Given as goal

abbrev pub invariant-loop-i : goal.invariant-loop-i
invariant-loop-i l = l.ok ≡ outputs_zero l.agent.regs l.i

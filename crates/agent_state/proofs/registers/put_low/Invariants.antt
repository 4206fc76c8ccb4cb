-- What is left of the run, stored at the present place, gives the whole. Assumes nothing.
use Rattle.std.proofs.Common.{◌≡◌, ◌+◌, ◌-◌}
use Rattle.std.proofs.lemmas.List.Edits.{sets}
use Rattle.rules.specs.Registers.{low_bytes}
use Rattle.agent_state.proofs.registers.put_low.Given as goal

abbrev pub invariant-loop-i : goal.invariant-loop-i
invariant-loop-i l = sets l.regs (l.at + l.i) (low_bytes (l.width - l.i) l.rest) ≡ sets l.fn.regs l.at (low_bytes l.width l.n)

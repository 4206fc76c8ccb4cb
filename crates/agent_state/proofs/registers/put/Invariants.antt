-- What is left of the run, stored at the present place, gives the whole. Assumes nothing.
use Rattle.std.proofs.Common.{◌≡◌, ◌+◌, ◌≤◌, length, drop}
use Rattle.std.proofs.lemmas.List.Edits.{sets}
use Rattle.agent_state.proofs.registers.put.Given as goal

abbrev pub invariant-loop-i : goal.invariant-loop-i
invariant-loop-i l = record {
  within : l.i ≤ length l.bytes;
  whole : sets l.regs (l.at + l.i) (drop l.i l.bytes) ≡ sets l.fn.regs l.at l.bytes;
}

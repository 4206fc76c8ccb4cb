-- The end of the run: nothing is left to store. Assumes nothing.
use Rattle.agent_state.proofs.LowNumbers.{low_end}
use Rattle.agent_state.proofs.registers.put_low.Goals as goal

pub returns : goal.returns
returns c =
    let l = c.loop-i in
    let a = c.args in
    low_end l.regs _ a.at l.i a.width l.rest c.loop-i-test.false l.invariant

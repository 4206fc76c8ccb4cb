-- A tick more, and the end. Assumes nothing.
use Rattle.agent_rest.proofs.ClockLaws.{clock_turn, clock_end}
use Rattle.agent_rest.proofs.tick_clock_by.Goals as goal

pub loop-preserved : goal.loop-preserved
loop-preserved c = clock_turn _ _ c.loop.counter c.loop.clock _ c.loop.invariant _ c.loop-test.true c.tick_clock.ensures

pub returns : goal.returns
returns c = clock_end _ _ c.loop.counter c.loop.clock _ c.loop.invariant c.loop-test.false

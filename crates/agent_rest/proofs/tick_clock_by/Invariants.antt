-- The ticks that are left, from the clock now, give the whole. Assumes nothing.
use Rattle.std.proofs.Common.{◌≡◌, ◌-◌}
use Rattle.agent_rest.specs.Rest.{clock_ticks}
use Rattle.agent_rest.proofs.tick_clock_by.Given as goal

abbrev pub invariant-loop : goal.invariant-loop
invariant-loop l = clock_ticks l.t (l.n - l.counter) l.clock ≡ clock_ticks l.t l.n l.fn.clock

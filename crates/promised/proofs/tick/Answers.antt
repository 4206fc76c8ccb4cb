-- The inputs passed in are bytes. Assumes nothing.
use Rattle.demand3.proofs.ReachedLaws.{continues}
use Rattle.rules.specs.Calls.{tick}
use Rattle.promised.proofs.tick.Goals as goal

pub returns : goal.returns
returns c = (c.tick.ensures, continues _ (tick c.args.inputs.now) (λ i. (c.type_inv.inputs i).fits) _ _ c.tick.ensures)

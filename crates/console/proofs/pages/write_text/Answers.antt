use Rattle.console.proofs.HandingLaws.{hands_part}
use Rattle.console.proofs.pages.write_text.Goals as goal

pub loop-preserved : goal.loop-preserved
loop-preserved g c = hands_part _ _ _ _ _ _ c.loop.invariant c.in_ok-n.ensures.bytes

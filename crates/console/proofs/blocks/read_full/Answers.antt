use Rattle.std.proofs.Common.{rules, arith}
use Rattle.console.proofs.FillingLaws.{fills_more}
use Rattle.console.proofs.blocks.read_full.Goals as goal

pub loop-done-preserved : goal.loop-done-preserved
loop-done-preserved g c =
    let l = c.loop-done in
    let r = c.in_ok-n.ensures in
    record {
      room = search rules;
      read = fills_more _ _ _ l.buf _ l.done _ _ (omega arith) r.bound.0 l.invariant.read r.bytes.0;
    }

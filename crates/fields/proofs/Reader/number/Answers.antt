-- While the loop runs there is room for one byte more. Assumes nothing.
use Rattle.std.proofs.Common.{arith}
use Rattle.base.proofs.Numbers.{more_fits}
use Rattle.fields.proofs.Widths.{width_most}
use Rattle.fields.proofs.Reader.number.Goals as goal

pub overflow_mul-n : goal.overflow_mul-n
overflow_mul-n c =
    omega (arith, more_fits c.loop-off.off c.loop-off.n c.byte.result (omega (arith, width_most c.args.width)) c.loop-off.invariant.below (omega arith))

pub overflow_add-n : goal.overflow_add-n
overflow_add-n c =
    omega (arith, more_fits c.loop-off.off c.loop-off.n c.byte.result (omega (arith, width_most c.args.width)) c.loop-off.invariant.below (omega arith))

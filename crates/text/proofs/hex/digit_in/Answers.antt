use Rattle.std.proofs.Common.{arith}
use Rattle.text.proofs.HexLaws.{digit_past}
use Rattle.text.proofs.hex.digit_in.Goals as goal

pub returns-in_err-digit : goal.returns-in_err-digit
returns-in_err-digit c =
    rw c.from_residual.ensures (digit_past c.args.base c.args.c (omega arith) (omega arith) (rw c.from.ensures at c.in_err-digit.ensures.value))

use Rattle.std.proofs.Common.{arith}
use Rattle.text.proofs.BadLineLaws.{bad_length}
use Rattle.text.proofs.TextLaws.{piece_lent}
use Rattle.text.proofs.putting.put_bad.Goals as goal

pub returns : goal.returns
returns c =
    piece_lent 32 _ _ _ _ _ _ _ _ (omega (arith, bad_length c.args.number)) c.new-line.ensures c.put_bad.ensures c.as_slice.ensures.text c.put_text.ensures

use Rattle.text.proofs.TextLaws.{piece_lent}
use Rattle.script_text.proofs.PrintingLaws.{header_length}
use Rattle.script_text.proofs.lent.put_header.Goals as goal

pub returns : goal.returns
returns c = piece_lent 64 _ _ _ _ _ _ _ _ (header_length c.args.view) c.new-text.ensures c.put_header.ensures c.as_slice.ensures.text c.put_text.ensures

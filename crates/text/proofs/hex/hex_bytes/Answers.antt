use Rattle.std.proofs.Common.{◌∙◌, ap, sym}
use Rattle.text.specs.Hex.{hex_pairs, told}
use Rattle.text.proofs.HexLaws.{read_all}
use Rattle.text.proofs.hex.hex_bytes.Goals as goal

pub returns : goal.returns
returns c =
    let k = c.in_ok-n.ensures.ok_part in
    read_all c.args.out.now _ _ (hex_pairs c.args.text.now) c.read_pairs-2.result _ (ap (λ r. told r c.read_pairs.new.out) (sym k) ∙ c.read_pairs.ensures) c.if-out-n.false c.read_pairs-2.ensures

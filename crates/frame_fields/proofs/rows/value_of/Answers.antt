use Rattle.std.proofs.Common.{refl, ◌∙◌, ap₂, ℕ, List, Bor}
use Rattle.base.specs.Bytes.{number_at}
use Rattle.fields.specs.Fields.{width8}
use Rattle.text.specs.Hex.{hex_pairs}
use Rattle.text.proofs.HexLaws.{read_within}
use Rattle.frame_fields.proofs.RowLaws.{ok_kept, value_right}
use Rattle.frame_fields.proofs.rows.value_of.Goals as goal

pub returns : goal.returns
returns c =
    let n = c.in_ok-n.n in
    let o = hex_pairs c.args.text.now in
    let h = c.hex_bytes.ensures in
    let e = ok_kept c.hex_bytes.result n c.in_ok-n.ensures.value ∙ h.0 in
    let at_start = ap₂ (λ (b : Bor (List ℕ)) (i : ℕ). number_at b.now i (width8 n)) c.new.ensures.src c.new.ensures.at in
    value_right c.args.digits o _ _ n refl e h.1 (c.if-n-from.false ∙ c.from.ensures) (read_within 8 n o e) c.number.result (c.number.ensures.number ∙ at_start)

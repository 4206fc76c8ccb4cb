use Rattle.std.proofs.Common.{◌∙◌, ap}
use Rattle.text.specs.Hex.{hex_pairs}
use Rattle.frame_fields.specs.Rows.{value_in}
use Rattle.frame_fields.proofs.RowLaws.{field_named}
use Rattle.frame_fields.proofs.rows.field_value.Goals as goal

pub returns : goal.returns
returns c =
    let f = c.args.field in
    let p = c.in_ok-strip_prefix.ensures.cases in
    c.value_of.ensures ∙ ap (λ l. value_in f.1 (hex_pairs l)) p.1 ∙ field_named (f.0.now, f.1) c.args.word.now p.0

use Rattle.frame_fields.proofs.RowLaws.{fields_most}
use Rattle.frame_text.proofs.explaining.frame_text.Goals as goal

pub add_fields-requires : goal.add_fields-requires
add_fields-requires c = fields_most c.kind_of-kind.result _ c.fields.ensures

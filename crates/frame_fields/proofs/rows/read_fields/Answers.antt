use Rattle.frame_fields.proofs.RowLaws.{fields_most}
use Rattle.frame_fields.proofs.rows.read_fields.Goals as goal

pub read_row-requires : goal.read_row-requires
read_row-requires c = fields_most c.args.kind _ c.fields.ensures

-- The fields from the present one on give the whole text.
use Rattle.std.proofs.Common.{◌≡◌, drop}
use Rattle.frame_words.specs.Table.{fields_in}
use Rattle.frame_text.specs.Explained.{put_fields}
use Rattle.frame_text.proofs.explaining.add_fields.Given as goal

abbrev pub invariant-loop-i : goal.invariant-loop-i
invariant-loop-i l = put_fields (fields_in (drop l.i l.fields)) l.values l.i l.text ≡ put_fields (fields_in l.fields) l.values 0 l.fn.text

-- The fields from the present one on give the whole row.
use Rattle.std.proofs.Common.{◌≡◌, drop, replicate}
use Rattle.frame_words.specs.Table.{fields_in}
use Rattle.frame_fields.specs.Rows.{read_fields}
use Rattle.frame_fields.proofs.rows.read_row.Given as goal

abbrev pub invariant-loop-i : goal.invariant-loop-i
invariant-loop-i l = read_fields (fields_in (drop l.i l.fields)) l.line l.to l.i l.values ≡ read_fields (fields_in l.fields) l.line l.at 0 (replicate 8 0)

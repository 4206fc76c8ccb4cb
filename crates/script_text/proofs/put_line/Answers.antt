-- A bad line, or the fields. Assumes nothing.
use Rattle.script_text.proofs.PrintingLaws.{line_bad, line_fields, fields_printed, bad_printed}
use Rattle.script_text.proofs.put_line.Goals as goal

pub returns-then-bad-clause-text : goal.returns-then-bad-clause-text
returns-then-bad-clause-text g c = line_bad _ _ _ _ _ _ _ c.requires.1 c.if-bad.true c.put_bad.ensures

pub returns-then-bad-clause-most : goal.returns-then-bad-clause-most
returns-then-bad-clause-most g c = bad_printed _ _ _ _ c.if-bad.true

pub returns-else-bad-clause-text : goal.returns-else-bad-clause-text
returns-else-bad-clause-text g c = line_fields _ _ _ _ _ _ c.if-bad.false c.put_fields.ensures.text

pub returns-else-bad-clause-most : goal.returns-else-bad-clause-most
returns-else-bad-clause-most g c = fields_printed _ _ _ _ c.put_fields.ensures.most c.if-bad.false

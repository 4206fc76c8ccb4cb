use Rattle.text.proofs.TextLaws.{number_put}
use Rattle.text.proofs.texts.Text.put_decimal.Goals as goal

pub returns-clause-text : goal.returns-clause-text
returns-clause-text g c = (number_put g.row.ROOM c.args.self.now c.args.n _ c.requires c.add_number.ensures).0

pub returns-clause-len : goal.returns-clause-len
returns-clause-len g c = (number_put g.row.ROOM c.args.self.now c.args.n _ c.requires c.add_number.ensures).1

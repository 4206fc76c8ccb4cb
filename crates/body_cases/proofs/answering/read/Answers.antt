-- A body that was read, or one that was refused. Assumes nothing.
use Rattle.body_cases.proofs.BodyLaws.{read_refused, read_valid}
use Rattle.body_cases.proofs.answering.read.Goals as goal

pub returns-in-Ok : goal.returns-in-Ok
returns-in-Ok c = read_valid c.args.s.now _ _ _ c.in-Ok.ensures.body (rw (c.add-in-Ok.ensures, c.add.ensures, c.new-t.ensures))

pub returns-in-Err : goal.returns-in-Err
returns-in-Err c = read_refused c.args.s.now _ _ _ c.in-Err.ensures.body c.number.ensures (rw (c.add-in-Err.ensures, c.new-t.ensures))

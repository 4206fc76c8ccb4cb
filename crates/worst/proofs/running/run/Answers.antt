use Rattle.std.proofs.Common.{rules}
use Rattle.worst.proofs.Whole.{all_printed, all_begun}
use Rattle.worst.proofs.running.run.Goals as goal

pub returns-clause-ok : goal.returns-clause-ok
returns-clause-ok g c = search (rules, all_printed)

pub returns-clause-err : goal.returns-clause-err
returns-clause-err g c = search (rules, all_begun)

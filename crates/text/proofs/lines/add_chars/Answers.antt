use Rattle.std.proofs.Common.{rules, arith, ◌+◌}
use Rattle.std.proofs.lemmas.Slice.{drop-put_mid}
use Rattle.text.proofs.LineLaws.{added}
use Rattle.text.proofs.lines.add_chars.Goals as goal

pub returns-clause-line : goal.returns-clause-line
returns-clause-line c = rw c.copy_from_slice.ensures.after (added _ _ _ _ _ c.requires c.min-n.ensures)

pub returns-clause-behind : goal.returns-clause-behind
returns-clause-behind c =
    let a = c.args in
    let n = c.min-n.result in
    drop-put_mid a.len _ a.line.now c.copy_from_slice.new.self (a.len + n) (omega arith) c.requires (search rules)

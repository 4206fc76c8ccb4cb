-- By the result of reading hex digits. Assumes nothing.
use Rattle.std.proofs.Common.{◌≡◌, length, rules}
use Rattle.cases.proofs.CaseLaws.{case_read}
use Rattle.cases.proofs.answers.case_of.Goals as goal

pub returns-in-Ok : goal.returns-in-Ok
returns-in-Ok c =
    let h = c.hex_bytes.ensures in
    let l : length c.args.bytes.now ≡ 600 = search rules in
    case_read c.args.line.now _ _ _ _ c.if-line-gt1200.false l h.0 h.1 c.in-Ok.is

pub returns-in-Err : goal.returns-in-Err
returns-in-Err c =
    let h = c.hex_bytes.ensures in
    let l : length c.args.bytes.now ≡ 600 = search rules in
    case_read c.args.line.now _ _ _ _ c.if-line-gt1200.false l h.0 h.1 c.in-Err.is

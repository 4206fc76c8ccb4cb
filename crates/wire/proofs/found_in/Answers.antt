-- A body whose lengths are right: the unstuffed bytes are those in the array.
use Rattle.std.proofs.Common.{◌≡◌, ◌∙◌, ap, arith, Some}
use Rattle.std.specs.Result.{result_ok}
use Rattle.wire.proofs.BodyLaws.{body_taken, held_within}
use Rattle.wire.proofs.found_in.Goals as goal

pub returns-clause-body : goal.returns-clause-body
returns-clause-body c =
    let q : c.unstuff_into.result ≡ Some c.in_ok-len.len = c.ok_or.ensures.ok_part ∙ ap result_ok c.in_ok-len.was in
    held_within _ c.in_ok-len.len c.unstuff_into.new.bytes c.checked.ensures.within
    ∙ c.checked.ensures.body
    ∙ body_taken c.args.body.now c.args.bytes.now _ _ _ c.unstuff_into.ensures.plain q (omega arith) (omega arith) (omega arith) (omega arith) (omega arith)

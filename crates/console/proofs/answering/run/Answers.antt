use Rattle.std.proofs.Common.{rules, ◌≡◌, false, take, sym, ap, ◌∙◌}
use Rattle.std.proofs.lemmas.Result.{on_ok_weaker, on_err_weaker}
use Rattle.text.proofs.LineLaws.{found_at}
use Rattle.console.proofs.KnownLaws.{keeps_same}
use Rattle.console.proofs.ShowingLaws.{shown_whole}
use Rattle.console.proofs.HandingLaws.{at_error, front_none, hands_all}
use Rattle.console.proofs.RunningLaws.{stands_first, stands_handed, stands_fails, stands_done, stands_answered, stands_used, stands_filled, stands_ended, written, begun}
use Rattle.console.proofs.answering.run.Goals as goal

pub loop-init : goal.loop-init
loop-init g c = stands_first _ _ _ _ _ _ c.new-line.ensures c.new-block.ensures

-- the program has ended its work
pub returns-then-is_done : goal.returns-then-is_done
returns-then-is_done g c =
    let d = stands_done _ _ _ _ _ _ _ _ _ c.loop.invariant (c.is_done.ensures c.if-is_done.true) in
    record {
      ok = on_ok_weaker c.close.result (λ t. written _ _ _ _ _ _ d _ t) c.close.ensures.ok;
      err = on_err_weaker c.close.result (λ t. begun _ _ _ _ _ _ d _ t) c.close.ensures.err;
    }

-- a line that lies in the block whole
pub loop-preserved-in-Some : goal.loop-preserved-in-Some
loop-preserved-in-Some g c =
    let y = stands_handed _ _ _ _ _ _ _ _ _ c.loop.invariant _ _ c.in_ok-make_room.ensures.ok in
    let w = c.in-Some.ensures in
    let f = found_at _ _ w.1 in
    stands_answered _ _ _ _ _ _ _ _ _ y _ _ (shown_whole _ _ _ _ w.0 f.front c.min.ensures) (c.pass.ensures ∙ f.behind) f.has _ _ _ w.0
    (λ cs ls q. c.answer.ensures cs ls (ap (take c.min.result) c.as_slice.ensures ∙ q))

pub returns-in_err-make_room-2-clause-err : goal.returns-in_err-make_room-2-clause-err
returns-in_err-make_room-2-clause-err g c =
    at_error c.from_residual-in_err-make_room-2.result (stands_fails _ _ _ _ _ _ _ _ _ c.loop.invariant _ _ (keeps_same _) c.in_err-make_room-2.ensures.err)

-- a whole line
pub returns-in_err-make_room-clause-err : goal.returns-in_err-make_room-clause-err
returns-in_err-make_room-clause-err g c =
    at_error c.from_residual.result (stands_fails _ _ _ _ _ _ _ _ _ c.loop.invariant _ _ (keeps_same _) c.in_err-make_room.ensures.err)

pub loop-preserved-then-take_line : goal.loop-preserved-then-take_line
loop-preserved-then-take_line g c =
    let y = stands_handed _ _ _ _ _ _ _ _ _ c.loop.invariant _ _ c.in_ok-make_room-2.ensures.ok in
    let t = c.take_line.ensures in
    stands_answered _ _ _ _ _ _ _ _ _ y _ _ t.line t.left (sym t.found ∙ c.if-take_line.true) _ _ _ c.clear.ensures
    (λ cs ls q. c.answer-then-take_line.ensures cs ls (c.as_slice-then-take_line.ensures.text ∙ q))

-- none: another block
pub returns-in_err-next_block-clause-err : goal.returns-in_err-next_block-clause-err
returns-in_err-next_block-clause-err g c =
    let n = c.in_err-next_block.ensures in
    at_error c.from_residual-in_err-next_block.result (stands_fails _ _ _ _ _ _ _ _ _ c.loop.invariant _ _ n.kept n.err)

pub loop-preserved : goal.loop-preserved
loop-preserved g c =
    let t = c.take_line.ensures in
    let n = c.in_ok-next_block.ensures in
    let u = stands_used _ _ _ _ _ _ _ _ _ c.loop.invariant _ _ t.line t.left (sym t.found ∙ c.if-take_line.false) in
    let y = stands_handed _ _ _ _ _ _ _ _ _ u.0 _ _ (hands_all _ _ _ _ n.handed n.none) in
    stands_filled _ _ _ _ _ _ _ _ y _ _ n.ok.0

-- or the end of the input
pub returns-then-not-branch : goal.returns-then-not-branch
returns-then-not-branch g c =
    let r = c.close-then-not-branch.result in
    let n = c.in_ok-next_block.ensures in
    let none : c.in_ok-next_block.field-0 ≡ false = search rules in
    let t = c.take_line.ensures in
    let u = stands_used _ _ _ _ _ _ _ _ _ c.loop.invariant _ _ t.line t.left (sym t.found ∙ c.if-take_line.false) in
    let y = stands_handed _ _ _ _ _ _ _ _ _ u.0 _ _ (hands_all _ _ _ _ n.handed n.none) in
    let o = n.ok.1 none in
    let h = stands_ended _ _ _ _ _ _ _ _ y _ _ n.ok.0 o.1 o.0 _ (g.P.Answerer.says c.answer_last.new.program) c.answer_last.ensures in
    record {
      ok = on_ok_weaker r (λ t. written _ _ _ _ _ _ h _ t) c.close-then-not-branch.ensures.ok;
      err = on_err_weaker r (λ t. begun _ _ _ _ _ _ h _ t) c.close-then-not-branch.ensures.err;
    }

-- more lines than any input has
pub returns-clause-err : goal.returns-clause-err
returns-clause-err g c = stands_fails _ _ _ _ _ _ _ _ _ c.loop.invariant _ _ (keeps_same _) (front_none _ _ _ (keeps_same _))

-- At the start, a turn, and the end; a log that is long enough is never full. Assumes nothing.
use Rattle.std.proofs.Common.{arith, ◌∙◌, refl}
use Rattle.runs.proofs.RunLaws.{at_start, turns, never_full, ran}
use Rattle.runs.proofs.run_calls.Goals as goal

pub loop-at-init : goal.loop-at-init
loop-at-init c =
    let p = c.put-to in
    record {
      same_reply = refl;
      same_log = p.auto.log;
      within = omega (arith, p.ensures.0, p.auto.log, c.if-log-lt-RECORD.false);
      progress = λ fit list e makable.
          at_start _ _ _ _ c.args.log.now e makable (c.power_up-agent.ensures.1.reached fit) p.ensures.1 c.if-log-lt-RECORD.false _ p.ensures.0 _ p.ensures.2;
    }

pub returns-then-log-to-lt-RECORD : goal.returns-then-log-to-lt-RECORD
returns-then-log-to-lt-RECORD c =
    let v = c.loop-at.invariant in
    λ fit list e makable few.
    absurd (never_full _ _ _ _ _ _ _ _ (v.progress fit list e makable) c.loop-at-test.true (omega (arith, c.if-log-to-lt-RECORD.true, v.within)) (omega (arith, few, v.same_log)))

pub loop-at-preserved : goal.loop-at-preserved
loop-at-preserved c =
    let p = c.put-to-in-loop-at in
    let s = c.step-made in
    let v = c.loop-at.invariant in
    record {
      same_reply = s.auto.reply ∙ v.same_reply;
      same_log = p.auto.log ∙ v.same_log;
      within = omega (arith, p.ensures.0, p.auto.log, c.if-log-to-lt-RECORD.false, v.within);
      progress = λ fit list e makable.
          turns _ _ _ _ _ _ _ _ (v.progress fit list e makable) c.loop-at-test.true (omega (arith, c.if-log-to-lt-RECORD.false, v.within))
          s.result.answer s.new.agent s.result.next _ _ v.same_reply s.ensures p.ensures.1 p.ensures.0 _ p.ensures.2;
    }

pub returns : goal.returns
returns c = λ fit list e makable few. ran _ _ _ _ _ _ _ _ (c.loop-at.invariant.progress fit list e makable) c.loop-at-test.false

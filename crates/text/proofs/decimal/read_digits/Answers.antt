use Rattle.std.proofs.Common.{rules, arith, ◌≤◌, ◌∙◌, sym, ap, length}
use lib.ListN.{drop_of_length-le}
use Rattle.text.specs.Decimal.{digits_from, up_to}
use Rattle.text.proofs.DecimalLaws.{past_limit, within_limit, digit_more}
use Rattle.text.proofs.decimal.read_digits.Goals as goal

pub returns-then-limit-n : goal.returns-then-limit-n
returns-then-limit-n c =
    let l = c.loop-c in
    let d = c.in_ok-digit_in.ensures in
    sym (past_limit c.args.limit _ _ (omega (arith, d.1)))
    ∙ ap (up_to c.args.limit) (sym (digit_more c.args.text.now l.c-index c.in_ok-digit_in.field-0 c.loop-c-test.true d.1 l.n (omega (arith, d))))
    ∙ l.invariant.whole

pub returns : goal.returns
returns c =
    let l = c.loop-c in
    let h : length c.args.text.now ≤ l.c-index = search rules in
    within_limit c.args.limit l.n l.invariant.most
    ∙ ap (λ s. up_to c.args.limit (digits_from l.n s)) (sym (drop_of_length-le c.args.text.now h)) ∙ l.invariant.whole

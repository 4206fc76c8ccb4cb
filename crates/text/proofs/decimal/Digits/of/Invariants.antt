-- The digits that are left, before those that stand, are the whole. Assumes nothing.
use Rattle.text.specs.Decimal.{digits}
use Rattle.text.proofs.DecimalLaws.{Standing}
use Rattle.text.proofs.decimal.Digits.of.Given as goal

abbrev pub invariant-loop-rest : goal.invariant-loop-rest
invariant-loop-rest l = Standing (digits 20 l.n) l.chars l.from l.rest

abbrev pub decreases-loop-rest : goal.decreases-loop-rest
decreases-loop-rest l = l.rest

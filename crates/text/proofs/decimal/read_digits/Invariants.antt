-- The number so far, with the digits of the rest, gives the whole.
use Rattle.std.proofs.Common.{◌≡◌, ◌≤◌, drop}
use Rattle.text.specs.Decimal.{digits_from, up_to}
use Rattle.text.proofs.decimal.read_digits.Given as goal

abbrev pub invariant-loop-c : goal.invariant-loop-c
invariant-loop-c l = record {
  most : l.n ≤ l.fn.limit;
  whole : up_to l.fn.limit (digits_from l.n (drop l.c-index l.text)) ≡ up_to l.fn.limit (digits_from 0 l.text);
}

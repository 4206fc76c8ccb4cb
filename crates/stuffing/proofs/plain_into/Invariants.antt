-- The invariant: what the array holds, followed by what the rest gives, is the whole's.
use Rattle.std.proofs.Common.{length, ◌≡◌, ◌+◌, ◌≤◌, false}
use Rattle.std.specs.Slice.Iter.{iter_rest}
use Rattle.stuffing.specs.Stuffing.{unstuff, unstuff_from, plain_in}
use Rattle.stuffing.proofs.StuffingLaws.{extend}
use Rattle.stuffing.proofs.plain_into.Given as goal

abbrev pub invariant-loop-b : goal.invariant-loop-b
invariant-loop-b l = record {
  fewer : l.len + length (iter_rest l.left) ≤ length l.src;
  whole : extend l.bytes l.len (unstuff_from (iter_rest l.left) false) ≡ plain_in l.fn.bytes (unstuff l.src);
}

abbrev pub decreases-loop-b : goal.decreases-loop-b
decreases-loop-b l = length (iter_rest l.left)

-- What is stored, before what the rest gives, is the whole.
use Rattle.std.proofs.Common.{length, ◌≡◌, ◌+◌, ◌≤◌}
use Rattle.std.specs.Slice.Iter.{iter_rest}
use Rattle.text.specs.Hex.{hex_pairs, stored}
use Rattle.text.proofs.hex.read_pairs.Given as goal

abbrev pub invariant-loop-high : goal.invariant-loop-high
invariant-loop-high l = record {
  fewer : l.n + length (iter_rest l.left) ≤ length l.text;
  whole : stored l.out l.n (hex_pairs (iter_rest l.left)) ≡ stored l.fn.out 0 (hex_pairs l.text);
}

abbrev pub decreases-loop-high : goal.decreases-loop-high
decreases-loop-high l = length (iter_rest l.left)

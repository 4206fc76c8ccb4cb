-- `n` is the number of the bytes passed, and below 256 ^ off, so that one byte more fits 64 bits. Assumes nothing.
use Rattle.std.proofs.Common.{◌≡◌, ◌^◌, ◌≤◌, ◌<◌}
use Rattle.base.specs.Bytes.{number_at}
use Rattle.fields.specs.Fields.{width8}
use Rattle.fields.proofs.Reader.number.Given as goal

abbrev pub invariant-loop-off : goal.invariant-loop-off
invariant-loop-off l = record {
  within : l.off ≤ l.w;
  width : l.w ≡ width8 l.width;
  is : l.n ≡ number_at l.self.src.now l.self.at l.off;
  below : l.n < 256 ^ l.off;
}

-- The digits of the rest, stored at the present place, give the whole.
use Rattle.std.proofs.Common.{length, ◌+◌, ◌≡◌, drop}
use Rattle.std.proofs.lemmas.List.Edits.{sets}
use Rattle.text.specs.Putting.{hex_text}
use Rattle.text.proofs.putting.put_bytes.Given as goal

abbrev pub invariant-loop-b : goal.invariant-loop-b
invariant-loop-b l = record {
  same : length l.buf ≡ length l.fn.buf;
  place : l.to + length (hex_text (drop l.b-index l.bytes)) ≡ l.at + length (hex_text l.bytes);
  whole : sets l.buf l.to (hex_text (drop l.b-index l.bytes)) ≡ sets l.fn.buf l.at (hex_text l.bytes);
}

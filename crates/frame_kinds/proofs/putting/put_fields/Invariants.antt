-- What is left, put at the place reached, gives the whole. Assumes nothing.
use Rattle.std.proofs.Common.{◌≡◌, ◌+◌, ◌≤◌, length, drop}
use Rattle.std.proofs.lemmas.List.Edits.{sets}
use Rattle.fields.specs.Fields.{laid}
use Rattle.frame_kinds.proofs.putting.put_fields.Given as goal

abbrev pub invariant-loop-width : goal.invariant-loop-width
invariant-loop-width l = record {
  within : l.width-index ≤ length l.fields;
  place : l.to + length (laid (drop l.width-index l.fields)) ≡ l.at + length (laid l.fields);
  put : sets l.dst l.to (laid (drop l.width-index l.fields)) ≡ sets l.fn.dst l.at (laid l.fields);
}

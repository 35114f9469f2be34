use Rattle.std.proofs.Common.{◌≡◌, ◌++◌, take, drop}
use Rattle.unit_identity.specs.Reading.{name_of, rest_of}
use Rattle.unit_identity.proofs.reader.name_len.Given as goal

abbrev pub invariant-loop-i : goal.invariant-loop-i
invariant-loop-i l = record {
  name : take l.i l.bytes ++ name_of (drop l.i l.bytes) ≡ name_of l.bytes;
  rest : rest_of (drop l.i l.bytes) ≡ rest_of l.bytes;
}

-- The bytes so far are behind what was there.
use Rattle.std.proofs.Common.{◌≡◌, ◌+◌, ◌≤◌, ◌++◌, take}
use Rattle.std.specs.Prelude.{vec_len, vec_capacity}
use Rattle.pana_wire.proofs.open_line.OpenLine.push.Given as goal

abbrev pub invariant-loop-byte : goal.invariant-loop-byte
invariant-loop-byte l = record {
  items : l.self-inside.bytes.items ≡ l.initial.self-inside.bytes.items ++ take l.byte-index l.bytes;
  len : vec_len l.self-inside.bytes ≡ vec_len l.initial.self-inside.bytes + l.byte-index;
  room : 1048577 ≤ vec_capacity l.self-inside.bytes;
}

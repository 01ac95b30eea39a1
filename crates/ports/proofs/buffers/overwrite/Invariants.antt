use Rattle.std.proofs.Common.{◌≡◌, vec_len, vec_capacity}
use lib.Seq.{paste}
use Rattle.ports.proofs.buffers.overwrite.Given as goal

abbrev pub invariant-loop-i : goal.invariant-loop-i
invariant-loop-i l = record {
  items : l.list.items ≡ paste l.fn.list.items l.at l.piece l.i;
  len : vec_len l.list ≡ vec_len l.fn.list;
  capacity : vec_capacity l.list ≡ vec_capacity l.fn.list;
}

use Rattle.std.proofs.Common.{◌≡◌, ◌-◌, map}
use Rattle.std.specs.List.{range_with_len}
use Rattle.tspinst.specs.Sections.{entries_read, row}
use Rattle.tspinst.specs.Tables.{IsTable}
use Rattle.tspinst.proofs.weights.read_row.Given as goal

abbrev pub invariant-loop-j : goal.invariant-loop-j
invariant-loop-j l = record {
  read : entries_read l.format l.n (map (λ k. (l.i, k)) (range_with_len l.j (l.end - l.j))) l.table l.words ≡ entries_read l.format l.n (row l.format l.n l.i) l.initial.table l.fn.words;
  table : IsTable l.n l.table;
}

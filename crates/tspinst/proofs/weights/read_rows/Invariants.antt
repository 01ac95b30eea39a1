use Rattle.std.proofs.Common.{◌≡◌, ◌-◌}
use Rattle.std.specs.List.{range_with_len, flat_map}
use Rattle.tspinst.specs.Sections.{entries_read, entries, row}
use Rattle.tspinst.specs.Tables.{IsTable}
use Rattle.tspinst.proofs.weights.read_rows.Given as goal

abbrev pub invariant-loop-i : goal.invariant-loop-i
invariant-loop-i l = record {
  read : entries_read l.format l.n (flat_map (row l.format l.n) (range_with_len l.i (l.n - l.i))) l.table l.words ≡ entries_read l.format l.n (entries l.format l.n) l.initial.table l.fn.words;
  table : IsTable l.n l.table;
}

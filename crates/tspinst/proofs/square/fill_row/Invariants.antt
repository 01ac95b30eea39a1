use Rattle.std.proofs.Common.{length}
use Rattle.distx.specs.Kind.{rule_of}
use Rattle.tspinst.specs.Tables.{IsTable, Fills}
use Rattle.tspinst.proofs.square.fill_row.Given as goal

abbrev pub invariant-loop-v : goal.invariant-loop-v
invariant-loop-v l = record {
  table : IsTable (length l.points) l.table;
  fills : Fills (rule_of l.kind) l.points l.table l.u l.v;
}

use Rattle.std.proofs.Common.{length}
use Rattle.distx.specs.Kind.{rule_of}
use Rattle.tspinst.specs.Tables.{IsTable, Fills}
use Rattle.tspinst.proofs.square.fill.Given as goal

abbrev pub invariant-loop-u : goal.invariant-loop-u
invariant-loop-u l = record {
  table : IsTable (length l.points) l.table;
  fills : Fills (rule_of l.kind) l.points l.table l.u 0;
}

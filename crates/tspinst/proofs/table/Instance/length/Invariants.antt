use Rattle.std.proofs.Common.{◌≡◌, ◌+◌, ◌*◌, ◌^◌, ◌<◌, ◌≤◌}
use Rattle.tspdef.specs.Instances.{dist, length_in}
use Rattle.tspinst.proofs.LengthLemmas.{ahead}
use Rattle.tspinst.proofs.table.Instance.length.Given as goal

abbrev pub invariant-loop-i : goal.invariant-loop-i
invariant-loop-i l = record {
  length : l.travelled + ahead (dist l.self) l.home l.here l.tour l.i ≡ length_in l.self l.tour;
  bound : l.travelled ≤ l.i * 2 ^ 30;
  here : l.here < l.self.n;
}

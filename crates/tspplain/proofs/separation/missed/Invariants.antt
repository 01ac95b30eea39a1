use Rattle.std.proofs.Common.{◌≡◌, ◌*◌, ◌%◌, ◌^◌, ◌≤◌, take, sum_by}
use Rattle.tspplain.specs.Crossings.{crossing_of}
use Rattle.tspplain.proofs.separation.missed.Given as goal

abbrev pub invariant-loop-set : goal.invariant-loop-set
invariant-loop-set l = record {
  so_far : l.sum ≡ sum_by (crossing_of l.x.entries) (take l.set-index l.sets) % 2 ^ 64;
  small : sum_by (crossing_of l.x.entries) (take l.set-index l.sets) ≤ l.set-index * 2 ^ 40;
}

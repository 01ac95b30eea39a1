use Rattle.std.proofs.Common.{◌+◌}
use Rattle.std.specs.List.{sum}
use Rattle.maxflow.specs.Shrinking.{IsFirst}
use Rattle.maxflow.specs.Merging.{AreUntiedBelow, IsMerging}
use Rattle.maxflow.proofs.shrinking.untied.Given as goal

abbrev pub invariant-loop-merging : goal.invariant-loop-merging
invariant-loop-merging l = record {
  so_far : IsMerging l.n l.entries l.merging;
  first : IsFirst l.n l.merging.shrunk.groups.items l.at;
  below : AreUntiedBelow l.n l.entries l.merging.shrunk.groups.items (l.a + 1) l.at;
}

abbrev pub decreases-loop-merging : goal.decreases-loop-merging
decreases-loop-merging l = sum l.merging.shrunk.groups.items

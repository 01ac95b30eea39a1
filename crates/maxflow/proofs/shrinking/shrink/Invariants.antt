use Rattle.maxflow.specs.Merging.{AreUntiedBelow, IsMerging}
use Rattle.maxflow.proofs.shrinking.shrink.Given as goal

abbrev pub invariant-loop-a : goal.invariant-loop-a
invariant-loop-a l = record {
  so_far : IsMerging l.n l.entries l.merging;
  below : AreUntiedBelow l.n l.entries l.merging.shrunk.groups.items l.a l.n;
}

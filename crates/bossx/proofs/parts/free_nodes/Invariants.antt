use Rattle.std.proofs.Common.{◌≡◌}
use Rattle.bossx.specs.Answers.{AreOpenBelow}
use Rattle.bossx.proofs.parts.free_nodes.Given as goal

abbrev pub invariant-loop-node : goal.invariant-loop-node
invariant-loop-node l = record {
  size : l.free.size ≡ l.size;
  open_below : AreOpenBelow l.tree.nodes l.node l.free;
}

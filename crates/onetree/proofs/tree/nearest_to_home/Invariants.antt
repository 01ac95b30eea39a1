use Rattle.onetree.specs.OneTrees.{reduced}
use Rattle.onetree.specs.Growing.{IsNearHome}
use Rattle.onetree.proofs.tree.nearest_to_home.Given as goal

abbrev pub invariant-loop-v : goal.invariant-loop-v
invariant-loop-v l = IsNearHome l.instance.n (reduced l.instance l.duals) l.but l.v l.best

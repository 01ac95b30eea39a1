use Rattle.treebook.specs.Borne.{IsGreatestSoFar}
use Rattle.treebook.proofs.tree.Tree.greatest_bound.Given as goal

abbrev pub invariant-loop-k : goal.invariant-loop-k
invariant-loop-k l = IsGreatestSoFar l.instance l.self.nodes l.length l.k l.most

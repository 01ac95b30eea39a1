use Rattle.std.proofs.Common.{◌≡◌, ◌++◌, map, take}
use Rattle.tspdef.specs.Paths.{fixed_conditions}
use Rattle.treebook.specs.Tables.{own_condition, way}
use Rattle.treebook.proofs.tree.Tree.path_of.Given as goal

abbrev pub invariant-loop-k : goal.invariant-loop-k
invariant-loop-k l = record {
  cities : l.path.n ≡ l.self.n;
  items : l.k-items ≡ way l.self.nodes l.node;
  conditions : l.path.conditions ≡ fixed_conditions l.self.fixed ++ map (own_condition l.self.nodes) (take l.k-index l.k-items);
}

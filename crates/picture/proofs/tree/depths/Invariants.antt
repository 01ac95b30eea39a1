use Rattle.std.proofs.Common.{◌≡◌, ◌≤◌, drop}
use Rattle.std.specs.List.{AllByRecursion}
use Rattle.picture.specs.Trees.{Shape, preorder, depths_from}
use Rattle.picture.proofs.Walking.{Reaches}
use Rattle.picture.proofs.tree.depths.Given as goal

abbrev pub invariant-loop-place : goal.invariant-loop-place
invariant-loop-place l = record {
  reaches : (tree : Shape) → preorder tree ≡ l.nodes → Reaches (drop l.place l.nodes) l.waiting.items l.depths.items (depths_from 0 tree);
  low : AllByRecursion (λ d. d ≤ l.place) l.waiting.items;
}

use Rattle.std.proofs.Common.{◌≡◌, ◌+◌}
use Rattle.onetree.specs.OneTrees.{reduced}
use Rattle.onetree.specs.Growing.{IsFront, IsGrowing, marked, unmarked}
use Rattle.onetree.proofs.tree.spanning.Given as goal

abbrev pub invariant-loop-inside : goal.invariant-loop-inside
invariant-loop-inside l = record {
  front : IsFront l.instance.n (reduced l.instance l.duals) l.frontier.inside.items l.frontier.near.items l.frontier.least.items;
  outside : unmarked l.frontier.inside.items + l.inside ≡ l.instance.n;
  growing : IsGrowing l.instance.n (reduced l.instance l.duals) (marked l.frontier.inside.items) (unmarked l.frontier.inside.items) l.tree.items;
}

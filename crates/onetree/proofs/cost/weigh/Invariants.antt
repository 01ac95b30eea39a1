use Rattle.std.proofs.Common.{◌≡◌, ◌*◌, ◌^◌, drop}
use Rattle.std.specs.Prelude.{◌+ℤ◌}
use Rattle.onetree.specs.OneTrees.{weight, reduced}
use Rattle.onetree.specs.Growing.{IsWithin}
use Rattle.onetree.proofs.cost.weigh.Given as goal

abbrev pub invariant-loop-pair : goal.invariant-loop-pair
invariant-loop-pair l = record {
  rest : l.total +ℤ weight (reduced l.instance l.duals) (drop l.pair-index l.pairs) ≡ weight (reduced l.instance l.duals) l.pairs;
  size : IsWithin (l.pair-index * 2 ^ 64) l.total;
}

use Rattle.std.proofs.Common.{◌≡◌, ◌*◌, ◌^◌}
use Rattle.tspdef.specs.Sums.{sum_below}
use Rattle.onetree.specs.OneTrees.{dual_of}
use Rattle.onetree.specs.Growing.{IsWithin}
use Rattle.onetree.proofs.value.sum_of.Given as goal

abbrev pub invariant-loop-city : goal.invariant-loop-city
invariant-loop-city l = record {
  so_far : l.total ≡ sum_below (dual_of l.duals) l.city;
  size : IsWithin (l.city * 2 ^ 63) l.total;
}

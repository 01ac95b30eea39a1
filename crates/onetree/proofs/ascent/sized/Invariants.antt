use Rattle.std.proofs.Common.{◌≡◌, ◌^◌, ◌≤◌, length}
use Rattle.std.specs.Prelude.{nat_abs}
use Rattle.std.specs.List.{AllByRecursion}
use Rattle.onetree.proofs.ascent.sized.Given as goal

abbrev pub invariant-loop-city : goal.invariant-loop-city
invariant-loop-city l = record {
  all : length l.duals.items ≡ l.city;
  sizes : AllByRecursion (λ y. nat_abs y ≤ 2 ^ 62) l.duals.items;
}

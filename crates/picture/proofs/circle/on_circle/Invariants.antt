use Rattle.std.proofs.Common.{◌≡◌, length}
use Rattle.std.specs.List.{AllByRecursion}
use Rattle.picture.specs.Canvas.{IsInside}
use Rattle.picture.proofs.circle.on_circle.Given as goal

abbrev pub invariant-loop-city : goal.invariant-loop-city
invariant-loop-city l = record {
  all : length l.spots.items ≡ l.city;
  inside : AllByRecursion IsInside l.spots.items;
}

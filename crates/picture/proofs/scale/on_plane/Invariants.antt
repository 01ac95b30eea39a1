use Rattle.std.proofs.Common.{◌≡◌, length}
use Rattle.std.specs.List.{AllByRecursion}
use Rattle.picture.specs.Canvas.{IsInside}
use Rattle.picture.proofs.scale.on_plane.Given as goal

abbrev pub invariant-loop-place : goal.invariant-loop-place
invariant-loop-place l = record {
  all : length l.spots.items ≡ l.place;
  inside : AllByRecursion IsInside l.spots.items;
}

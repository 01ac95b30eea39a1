use Rattle.std.proofs.Common.{◌≡◌, ◌++◌, take}
use Rattle.std.specs.Prelude.{flat_map, string_bytes}
use Rattle.picture.specs.Texts.{dot_of}
use Rattle.picture.proofs.text.add_cities.Given as goal

abbrev pub invariant-loop-place : goal.invariant-loop-place
invariant-loop-place l = string_bytes l.text ≡ string_bytes l.initial.text ++ flat_map (dot_of l.spots l.radius) (take l.place l.tour)

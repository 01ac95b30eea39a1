use Rattle.std.proofs.Common.{◌≡◌, ◌++◌, take}
use Rattle.std.specs.List.{flat_map}
use Rattle.std.specs.Prelude.{string_bytes}
use Rattle.tspengine.specs.Texts.{city_text}
use Rattle.tspengine.proofs.texts.push_cities.Given as goal

abbrev pub invariant-loop-city : goal.invariant-loop-city
invariant-loop-city l = string_bytes l.text ≡ string_bytes l.initial.text ++ flat_map city_text (take l.city-index l.tour)

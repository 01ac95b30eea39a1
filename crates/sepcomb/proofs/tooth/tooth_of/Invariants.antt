use Rattle.std.proofs.Common.{◌≡◌, ◌∷◌}
use Rattle.sepcomb.specs.Growth.{set_below}
use Rattle.sepcomb.proofs.tooth.tooth_of.Given as goal

abbrev pub invariant-loop-city : goal.invariant-loop-city
invariant-loop-city l = l.cities.items ≡ set_below l.city (l.fn.pair.u ∷ l.fn.pair.v ∷ l.path)

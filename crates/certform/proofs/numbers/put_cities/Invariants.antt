use Rattle.std.proofs.Common.{◌≡◌, ◌++◌, drop}
use Rattle.certform.specs.Lines.{spelled}
use Rattle.certform.proofs.numbers.put_cities.Given as goal

abbrev pub invariant-loop-city : goal.invariant-loop-city
invariant-loop-city l = l.out.items ++ spelled (drop l.city-index l.cities) ≡ l.initial.out.items ++ spelled l.cities
